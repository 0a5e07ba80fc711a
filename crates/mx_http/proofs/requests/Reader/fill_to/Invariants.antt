use Rattle.std.proofs.Common.{◌≡◌, ◌-◌, ℕ, List, ◌++◌, length}
use Rattle.std.specs.Io.KnownBytes.{prepend_known, Keeps}
use Rattle.mx_http.proofs.requests.Reader.fill_to.Given as goal

abbrev pub invariant-more : goal.invariant-more
invariant-more g l = record {
  kept : Keeps (prepend_known l.initial.self-inside.intake (g.S.Source.left l.initial.source)) (prepend_known l.self-inside.intake (g.S.Source.left l.source));
  grown : (more : List ℕ) × (l.self-inside.intake ≡ l.initial.self-inside.intake ++ more);
  counted : g.S.Source.faults l.source ≡ g.S.Source.faults l.initial.source;
}

abbrev pub decreases-more : goal.decreases-more
decreases-more g l = l.whole - length l.self-inside.intake
