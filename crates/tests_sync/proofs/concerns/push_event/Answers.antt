use Rattle.std.proofs.Common.{◌≡◌, ◌+◌, true, length, sym, subst, arith}
use Rattle.mx_window.proofs.Intervals.{stand_from-push}
use Rattle.mx_window.specs.Windows.{stand_from}
use Rattle.mx_event.specs.Shown.{position_of}
use Rattle.tests_sync.proofs.concerns.push_event.Goals as goal

pub returns : goal.returns
returns g c =
    let next : position_of c.event.result ≡ 1 + length c.args.made.now.items = omega (arith, c.event.ensures, c.len.ensures) in
    subst (λ es. stand_from position_of 1 es ≡ true) (sym c.in_ok-push.ensures.items) (stand_from-push position_of 1 c.args.made.now.items c.event.result c.requires next)
