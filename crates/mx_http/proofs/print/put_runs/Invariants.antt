use Rattle.std.proofs.Common.{◌≤◌, ◌-◌, drop, length}
use Rattle.json.specs.Print.{escape}
use Rattle.mx_http.specs.Stages.{state_of}
use Rattle.mx_http.proofs.Stages.{Leaves}
use Rattle.mx_http.proofs.print.put_runs.Given as goal

abbrev pub invariant-runs : goal.invariant-runs
invariant-runs g l = record {
  within : l.done ≤ length l.bytes;
  left : Leaves (state_of g.K.Sink.written g.K.Sink.faults l.fn.sink l.fn.stage) (state_of g.K.Sink.written g.K.Sink.faults l.sink l.stage) (escape (drop l.done l.bytes)) (escape l.bytes);
}

abbrev pub decreases-runs : goal.decreases-runs
decreases-runs g l = length l.bytes - l.done
