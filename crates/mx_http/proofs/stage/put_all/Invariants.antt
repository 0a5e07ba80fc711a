use Rattle.std.proofs.Common.{drop}
use Rattle.std.specs.List.{flat_map}
use Rattle.mx_http.specs.Stages.{state_of}
use Rattle.mx_http.proofs.Stages.{Leaves}
use Rattle.mx_http.proofs.stage.put_all.Given as goal

abbrev pub invariant-pieces : goal.invariant-pieces
invariant-pieces g l =
    Leaves (state_of g.K.Sink.written g.K.Sink.faults l.fn.sink l.fn.stage) (state_of g.K.Sink.written g.K.Sink.faults l.sink l.stage)
    (flat_map (λ p. p.now) (drop l.piece-index l.pieces)) (flat_map (λ p. p.now) l.pieces)
