use Rattle.std.proofs.Common.{◌∙◌, ap, ap₂}
use Rattle.mx_json.specs.Fields.{field}
use Rattle.mx_auth.specs.Entries.{exceeds}
use Rattle.mx_auth.proofs.Entries.{over_both, entries_first, entries_then}
use Rattle.mx_auth.proofs.changes.any_entry.Goals as goal

pub returns-then-any_old_entry : goal.returns-then-any_old_entry
returns-then-any_old_entry c =
    let test = exceeds c.args.map c.args.sender.now.level c.args.sender.now.id.now in
    entries_first test _ _ _ c.members_in.ensures.value c.members_in.ensures.ordered c.any_old_entry.result c.any_old_entry.ensures c.if-any_old_entry.true
    ∙ ap₂ (over_both test) (c.field-old.ensures ∙ ap (λ k. field k c.args.old.now) c.key.ensures) (c.field-new.ensures ∙ ap (λ k. field k c.args.new.now) c.key-2.ensures)

pub returns-else-any_old_entry : goal.returns-else-any_old_entry
returns-else-any_old_entry c =
    let test = exceeds c.args.map c.args.sender.now.level c.args.sender.now.id.now in
    let set = c.members_in-else-any_old_entry in
    entries_then test _ _ _ c.members_in.ensures.value c.members_in.ensures.ordered set.result.now set.ensures.value set.ensures.ordered
    c.any_old_entry.result c.any_new_entry.result c.any_old_entry.ensures c.if-any_old_entry.false c.any_new_entry.ensures
    ∙ ap₂ (over_both test) (c.field-old.ensures ∙ ap (λ k. field k c.args.old.now) c.key.ensures) (c.field-new.ensures ∙ ap (λ k. field k c.args.new.now) c.key-2.ensures)
