use Rattle.std.proofs.Common.{◌≡◌, List, ◌++◌}
use Rattle.std.specs.List.{AllByRecursion}
use Rattle.mx_fold.specs.Lists.{Grows}
use Rattle.mx_engine.specs.Shown.{Ties, made_of, stores_of}
use Rattle.mx_engine.specs.declared.held.EnginePass.{EnginePass}
use Rattle.mx_engine.proofs.held.Engine.meet_all.Given as goal

abbrev pub invariant-others : goal.invariant-others
invariant-others g l =
    Ties l.self l.pass × (made_of l.pass ≡ made_of l.initial.pass) × AllByRecursion (λ (p : EnginePass). Ties l.self p) l.rest.items × Grows (stores_of l.initial.pass) (stores_of l.pass)
    × ((done : List EnginePass) × (l.initial.rest.items ≡ l.rest.items ++ done) × AllByRecursion (λ (p : EnginePass). Grows (stores_of p) (stores_of l.pass)) done)

abbrev pub decreases-others : goal.decreases-others
decreases-others g l = goal.left-others g l
