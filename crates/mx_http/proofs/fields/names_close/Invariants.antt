use Rattle.std.proofs.Common.{◌≡◌, length, codes}
use Rattle.std.specs.List.{list_any}
use Rattle.mx_http.specs.Fields.{has_element, values_of}
use Rattle.mx_http.specs.Spans.{pairs_at, AreWithin}
use Rattle.mx_http.proofs.fields.names_close.Given as goal

abbrev pub invariant-loop-value : goal.invariant-loop-value
invariant-loop-value l = record {
  within : AreWithin l.bytes l.rest;
  same : list_any (has_element (codes "close")) (values_of (codes "connection") (pairs_at l.bytes l.rest))
      ≡ list_any (has_element (codes "close")) (values_of (codes "connection") (pairs_at l.bytes l.fields));
}

abbrev pub decreases-loop-value : goal.decreases-loop-value
decreases-loop-value l = length l.rest
