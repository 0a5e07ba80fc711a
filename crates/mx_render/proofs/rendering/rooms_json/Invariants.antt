use Rattle.std.proofs.Common.{◌≡◌, ◌++◌, map, drop}
use Rattle.mx_render.specs.Rendered.{room_json}
use Rattle.mx_render.proofs.rendering.rooms_json.Given as goal

abbrev pub invariant-rooms : goal.invariant-rooms
invariant-rooms l = l.ids.items ++ map (room_json l.server) (drop l.room-index l.room-items) ≡ map (room_json l.server) l.room-items
