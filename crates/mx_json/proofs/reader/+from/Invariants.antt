use Rattle.std.proofs.Common.{◌≡◌, ◌++◌}
use Rattle.serde_json.specs.View.{items_view, members_view}
use Rattle.mx_json.specs.Values.{jsons_of, members_of_data}
use Rattle.mx_json.proofs.reader.+from.Given as goal

abbrev pub invariant-list_from-loop-item : goal.invariant-list_from-loop-item
invariant-list_from-loop-item l =
    l.list.items ++ jsons_of (items_view l.item-iterator.rest.items) ≡ jsons_of (items_view l.fn.items.items)

abbrev pub invariant-members_from-loop-key : goal.invariant-members_from-loop-key
invariant-members_from-loop-key l =
    (goal.iterator-members_from-loop-key).can_next l.key-iterator ×
    (goal.iterator-members_from-loop-key).is_finite l.key-iterator ×
    (l.members ++ members_of_data (members_view l.key-iterator) ≡ members_of_data (members_view l.fn.entries.entries))
