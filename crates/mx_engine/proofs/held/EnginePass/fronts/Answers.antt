use Rattle.std.proofs.Common.{ap, ◌∙◌}
use Rattle.mx_fold.specs.Lists.{fronts_of}
use Rattle.mx_rest.specs.Servers.{lists_of}
use Rattle.mx_snapshot.specs.declared.snapshot.Snapshot.{Snapshot}
use Rattle.mx_engine.proofs.held.EnginePass.fronts.Goals as goal

pub returns : goal.returns
returns c =
    (λ i. record { e = c.front.ensures.count i; r = c.front-2.ensures.count i; a = c.front-3.ensures.count i; d = 0; b = 0 })
    ∙ ap (λ (s : Snapshot). fronts_of (lists_of s)) c.as_snapshot-snapshot.ensures
