use Rattle.std.proofs.Common.{List, ap, ◌∙◌}
use Rattle.std.proofs.lemmas.Result.{IfOk-weaker}
use Rattle.mx_event.specs.Lawful.{same_room}
use Rattle.mx_receipt.specs.Receipts.{position_of}
use Rattle.mx_receipt.specs.declared.receipt.Receipt.{Receipt}
use Rattle.mx_window.specs.Windows.{between}
use Rattle.mx_snapshot.specs.Receipts.{of_room}
use Rattle.mx_snapshot.proofs.Found.{test_rises, test_window}
use Rattle.mx_snapshot.proofs.receipts.Receipts.of_room.Goals as goal

pub within-requires : goal.within-requires
within-requires c = test_rises position_of c.self.inside.receipts.items (λ (r : Receipt). same_room r.room c.args.room.now) _ c.self.invariant.0 (c.room_positions-positions.ensures ∙ c.self.invariant.1.rooms c.args.room.now)

pub returns : goal.returns
returns c =
    let rs = c.self.inside.receipts.items in
    IfOk-weaker c.gather.result _ _ (λ made h. test_window position_of rs (λ (r : Receipt). same_room r.room c.args.room.now) c.room_positions-positions.result.now c.self.invariant.0 (c.room_positions-positions.ensures ∙ c.self.invariant.1.rooms c.args.room.now) c.args.low c.args.high c.within.result.now _ c.within.ensures h
    ∙ ap (λ (l : List Receipt). between position_of c.args.low c.args.high (of_room c.args.room.now l)) c.self.view_is) c.gather.ensures
