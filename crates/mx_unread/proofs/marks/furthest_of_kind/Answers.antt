use Rattle.std.proofs.Common.{ℕ, List, ◌∙◌, ap}
use Rattle.mx_receipt.specs.Receipts.{position_of}
use Rattle.mx_window.specs.Windows.{between}
use Rattle.mx_snapshot.specs.Looks.{all_now}
use Rattle.mx_snapshot.specs.Receipts.{of_user}
use Rattle.mx_unread.specs.Marks.{furthest_of}
use Rattle.mx_unread.proofs.marks.furthest_of_kind.Goals as goal

pub returns : goal.returns
returns c =
    c.furthest_of.ensures
    ∙ ap furthest_of (ap all_now c.deref.ensures.value ∙ c.in_ok-stored.ensures
    ∙ ap (λ (user : List ℕ). between position_of c.args.low c.args.r (of_user c.args.room.now user c.args.kind c.args.receipts.now)) c.as_str.ensures.text)
