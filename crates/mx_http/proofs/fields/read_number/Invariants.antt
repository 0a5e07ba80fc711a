use Rattle.std.proofs.Common.{◌≡◌, ◌<◌, ◌≤◌, ◌-◌, ◌^◌, length}
use Rattle.mx_http.specs.Spans.{number_after}
use Rattle.mx_http.proofs.fields.read_number.Given as goal

abbrev pub invariant-loop-rest : goal.invariant-loop-rest
invariant-loop-rest l = record {
  few : length l.rest ≤ length l.digits;
  small : l.number < 10 ^ (length l.digits - length l.rest);
  same : number_after l.number l.rest ≡ number_after 0 l.digits;
}

abbrev pub decreases-loop-rest : goal.decreases-loop-rest
decreases-loop-rest l = length l.rest
