use Rattle.std.proofs.Common.{◌≡◌, ◌++◌, map}
use Rattle.mx_snapshot.specs.Looks.{all_now}
use Rattle.mx_parts.specs.Under.{all_found, event_in, found_now}
use Rattle.mx_parts.proofs.under_keys.in_order.Given as goal

abbrev pub invariant-found : goal.invariant-found
invariant-found l = all_now l.made.items ++ map event_in (map found_now l.entry-iterator) ≡ map event_in (all_found l.found)
