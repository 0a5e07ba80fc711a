use Rattle.std.proofs.Common.{◌≡◌, ap₂, ◌∙◌, length, nat_eq}
use Rattle.std.specs.Cmp.Lexicographic.{pointwise}
use Rattle.indexmap.specs.IndexMap.{move_index, insert_index}
use Rattle.indexmap.proofs.CallerLemmas.{insert_entry-new}
use Rattle.indexmap.proofs.MapLemmas.{or_len-absent, absent_from_lookup}
use Rattle.mx_rules.proofs.Putting.{last_moved}
use Rattle.mx_rules.proofs.edits.insert_new.Goals as goal

pub returns : goal.returns
returns g c =
    let m = c.args.rules.now in
    let eq = pointwise nat_eq in
    let new = insert_entry-new eq m c.args.id c.args.rule c.requires.new in
    let place : insert_index eq m c.args.id ≡ length m.entries = or_len-absent (eq c.args.id) m.entries (absent_from_lookup (eq c.args.id) m.entries c.requires.new) in
    (rw c.unwrap.ensures at c.shift_insert.ensures.entries) ∙ (ap₂ (λ es i. move_index es i c.args.at) new place ∙ last_moved m.entries (c.args.id, c.args.rule) c.args.at)
