use Rattle.std.proofs.Common.{◌≡◌, drop}
use Rattle.serde_json.specs.View.{items_view, members_view}
use Rattle.mx_json.specs.Numbers.{has_flaw, any_in_items, any_in_members}
use Rattle.mx_json.proofs.numbers.+flawed.Given as goal

abbrev pub invariant-items_are_flawed-loop-item : goal.invariant-items_are_flawed-loop-item
invariant-items_are_flawed-loop-item l =
    any_in_items (has_flaw l.flaw) (items_view l.item-items) ≡ any_in_items (has_flaw l.flaw) (items_view (drop l.item-index l.item-items))

abbrev pub invariant-members_are_flawed-loop-key : goal.invariant-members_are_flawed-loop-key
invariant-members_are_flawed-loop-key l =
    (goal.iterator-members_are_flawed-loop-key).can_next l._key-iterator ×
    (goal.iterator-members_are_flawed-loop-key).is_finite l._key-iterator ×
    (any_in_members (has_flaw l.flaw) (members_view l.members.entries) ≡ any_in_members (has_flaw l.flaw) (members_view l._key-iterator))
