use Rattle.std.proofs.Common.{◌≡◌, drop}
use Rattle.std.specs.List.{list_any}
use Rattle.mx_push.specs.Conditions.{is_same}
use Rattle.mx_push.proofs.conditions.any_same.Given as goal

abbrev pub invariant-items : goal.invariant-items
invariant-items l = list_any (is_same l.value) (drop l.item-index l.items) ≡ list_any (is_same l.value) l.items
