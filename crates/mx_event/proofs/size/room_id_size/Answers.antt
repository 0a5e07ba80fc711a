use Rattle.std.proofs.Common.{◌≡◌, ◌<◌, ◌^◌, length, decimal, ap, ◌∙◌, arith}
use Rattle.mx_event.proofs.Measure.{room_id_len}
use Rattle.mx_event.proofs.size.room_id_size.Goals as goal

pub returns : goal.returns
returns c =
    let writer = c.args.event.now.room.writer in
    let small : writer < 2 ^ 64 = omega (arith, c.from.type_inv, c.from.ensures) in
    let digits : c.number_size.result ≡ length (decimal writer) = c.number_size.ensures.value ∙ ap (λ n. length (decimal n)) c.from.ensures in
    room_id_len c.args.server.now writer c.saturating_add-2.result c.text_size.result c.number_size.result c.saturating_add.result small
    c.text_size.ensures digits c.saturating_add.ensures c.saturating_add-2.ensures
