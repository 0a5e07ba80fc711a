use Rattle.std.proofs.Common.{◌≡◌, ◌∷◌, ◌+◌, drop, arith}
use Rattle.std.proofs.lemmas.Grind.{common_steps}
use Rattle.mx_room_reads.proofs.Joins.{joined_more}
use Rattle.mx_room_reads.proofs.user_rooms.joined_among.Goals as goal

pub rooms-preserved : goal.rooms-preserved
rooms-preserved c =
    let own = c.args.own.now in
    let i = c.rooms.entry-index in
    let next : drop i own ≡ c.entry-item.result ∷ drop (i + 1) own = grind (arith, common_steps, c.entry-item.is, c.rooms-test.true) in
    joined_more own i c.entry-item.result c.rooms.rooms.items c.add.new.rooms.items _ next c.rooms.invariant c.in_ok-add.ensures
