use Rattle.std.proofs.Common.{List, ap, slice_index_or}
use Rattle.mx_event.specs.declared.event.Event.{Event}
use Rattle.mx_room.proofs.Finding.{bare_set}
use Rattle.mx_room.proofs.Standing.{made_ready}
use Rattle.mx_room.proofs.rooms.make_one_ready.Goals as goal

pub returns-clause-same : goal.returns-clause-same
returns-clause-same c =
    let rs = c.args.rooms.now in
    let d = c.index-rooms-index.result in
    let room = slice_index_or rs c.args.index d in
    bare_set rs c.args.index d _ c.requires
    (ap (λ (es : List Event). (room.at, es)) (made_ready room.state c.drop_ready.new.self c.make_ready.new.self c.args.event.now c.make_ready.result c.drop_ready.ensures c.make_ready.ensures.ok c.make_ready.ensures.same))
