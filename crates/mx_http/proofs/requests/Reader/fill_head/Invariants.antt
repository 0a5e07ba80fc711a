use Rattle.std.proofs.Common.{◌≡◌, ◌-◌, length}
use Rattle.std.specs.Io.KnownBytes.{prepend_known, Keeps}
use Rattle.mx_http.proofs.requests.Reader.fill_head.Given as goal

abbrev pub invariant-more : goal.invariant-more
invariant-more g l = record {
  kept : Keeps (prepend_known l.initial.self (g.S.Source.left l.initial.source)) (prepend_known l.self (g.S.Source.left l.source));
  counted : g.S.Source.faults l.source ≡ g.S.Source.faults l.initial.source;
}

abbrev pub decreases-more : goal.decreases-more
decreases-more g l = 16384 - length l.self
