use Rattle.std.proofs.Common.{◌≡◌, drop}
use Rattle.mx_http.specs.Fields.{values_of}
use Rattle.mx_http.specs.Spans.{pairs_at}
use Rattle.mx_http.proofs.fields.find_value.Given as goal

abbrev pub invariant-loop-at : goal.invariant-loop-at
invariant-loop-at l = values_of l.name (pairs_at l.bytes l.fields) ≡ values_of l.name (pairs_at l.bytes (drop l.at l.fields))
