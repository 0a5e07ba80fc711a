use Rattle.std.proofs.Common.{◌≡◌, take, map}
use Rattle.serde_json.specs.View.{view, members_view}
use Rattle.mx_json.specs.Values.{data_of, members_data}
use Rattle.mx_json.proofs.writer.+value_of.Given as goal

abbrev pub invariant-object_of-loop-member : goal.invariant-object_of-loop-member
invariant-object_of-loop-member l = members_view l.map.entries ≡ members_data (take l.member-index l.member-items)

abbrev pub invariant-array_of-loop-item : goal.invariant-array_of-loop-item
invariant-array_of-loop-item l = map view l.values.items ≡ map data_of (take l.item-index l.item-items)
