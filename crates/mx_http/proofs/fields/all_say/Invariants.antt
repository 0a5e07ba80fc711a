use Rattle.std.proofs.Common.{◌≡◌, length, codes}
use Rattle.mx_http.specs.Fields.{all_say, values_of}
use Rattle.mx_http.specs.Spans.{pairs_at, AreWithin}
use Rattle.mx_http.proofs.fields.all_say.Given as goal

abbrev pub invariant-loop-value : goal.invariant-loop-value
invariant-loop-value l = record {
  within : AreWithin l.bytes l.rest;
  same : all_say l.length (values_of (codes "content-length") (pairs_at l.bytes l.rest))
      ≡ all_say l.length (values_of (codes "content-length") (pairs_at l.bytes l.fields));
}

abbrev pub decreases-loop-value : goal.decreases-loop-value
decreases-loop-value l = length l.rest
