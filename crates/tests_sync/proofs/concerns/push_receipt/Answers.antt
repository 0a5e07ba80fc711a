use Rattle.std.proofs.Common.{◌≡◌, ◌+◌, length, sym, subst, arith}
use Rattle.mx_window.proofs.Intervals.{stand_from-push}
use Rattle.mx_receipt.specs.Receipts.{AreInPlace, position_of}
use Rattle.tests_sync.proofs.concerns.push_receipt.Goals as goal

pub returns : goal.returns
returns g c =
    let next : position_of c.receipt.result ≡ 1 + length c.args.made.now.items = omega (arith, c.receipt.ensures, c.len.ensures) in
    subst AreInPlace (sym c.in_ok-push.ensures.items) (stand_from-push position_of 1 c.args.made.now.items c.receipt.result c.requires next)
