use Rattle.std.proofs.Common.{sym, ◌∙◌}
use Rattle.mx_restore.proofs.Ones.{only_one}
use Rattle.mx_restore.proofs.drafts.entry_draft.Goals as goal

pub returns-then-is_empty : goal.returns-then-is_empty
returns-then-is_empty c =
    let left = c.pop.new.self in
    let entry = c.in_ok-entry.entry in
    (entry, only_one c.args.entries left.items entry _ (sym c.into_vec-entries.ensures ∙ c.in_ok-entry.ensures.items) left.ok.0 c.if-is_empty.ensures, c.draft_of.ensures)
