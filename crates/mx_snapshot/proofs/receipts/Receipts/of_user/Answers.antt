use Rattle.std.proofs.Common.{List, ap, ◌∙◌}
use Rattle.std.proofs.lemmas.Result.{IfOk-weaker}
use Rattle.mx_receipt.specs.Receipts.{is_for, position_of}
use Rattle.mx_receipt.specs.declared.receipt.Receipt.{Receipt}
use Rattle.mx_window.specs.Windows.{between}
use Rattle.mx_snapshot.specs.Receipts.{of_user}
use Rattle.mx_snapshot.proofs.Entries.{user_positions}
use Rattle.mx_snapshot.proofs.Found.{test_rises, test_window}
use Rattle.mx_snapshot.proofs.receipts.Receipts.of_user.Goals as goal

pub within-requires : goal.within-requires
within-requires c = test_rises position_of c.self.inside.receipts.items (is_for c.args.room.now c.args.user.now c.args.kind) _ c.self.invariant.0
    (user_positions c.self.inside.index c.self.inside.receipts.items c.args.room.now c.args.user.now c.args.kind _ _ c.kind_name.ensures c.version_positions-positions.ensures c.self.invariant.1)

pub returns : goal.returns
returns c =
    let rs = c.self.inside.receipts.items in
    let is = user_positions c.self.inside.index rs c.args.room.now c.args.user.now c.args.kind _ _ c.kind_name.ensures c.version_positions-positions.ensures c.self.invariant.1 in
    IfOk-weaker c.gather.result _ _ (λ made h. test_window position_of rs (is_for c.args.room.now c.args.user.now c.args.kind) c.version_positions-positions.result.now c.self.invariant.0 is c.args.low c.args.high c.within.result.now _ c.within.ensures h
    ∙ ap (λ (l : List Receipt). between position_of c.args.low c.args.high (of_user c.args.room.now c.args.user.now c.args.kind l)) c.self.view_is) c.gather.ensures
