use Rattle.std.proofs.Common.{ap, ◌∙◌}
use Rattle.mx_event.specs.Lawful.{same_room}
use Rattle.mx_receipt.specs.Receipts.{position_of}
use Rattle.mx_receipt.specs.declared.receipt.Receipt.{Receipt}
use Rattle.mx_snapshot.specs.Looks.{last_position}
use Rattle.mx_snapshot.proofs.Found.{test_top}
use Rattle.mx_snapshot.proofs.receipts.Receipts.last_in.Goals as goal

pub returns : goal.returns
returns c =
    test_top position_of c.self.inside.receipts.items (λ (r : Receipt). same_room r.room c.args.room.now) _ c.self.invariant.0 (c.room_positions.ensures ∙ c.self.invariant.1.rooms c.args.room.now) _ c.last_one.ensures
    ∙ ap (last_position position_of (λ (r : Receipt). same_room r.room c.args.room.now)) c.self.view_is
