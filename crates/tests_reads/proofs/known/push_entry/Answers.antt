use Rattle.std.proofs.Common.{◌≡◌, ◌+◌, length, sym, subst, arith}
use Rattle.mx_window.proofs.Intervals.{stand_from-push}
use Rattle.mx_account.specs.Entries.{position_of}
use Rattle.mx_account.specs.Values.{AreInPlace}
use Rattle.tests_reads.proofs.known.push_entry.Goals as goal

pub returns : goal.returns
returns g c =
    let next : position_of c.entry.result ≡ 1 + length c.args.made.now.items = omega (arith, c.entry.ensures, c.len.ensures) in
    subst AreInPlace (sym c.in_ok-push.ensures.items) (stand_from-push position_of 1 c.args.made.now.items c.entry.result c.requires next)
