use Rattle.std.proofs.Common.{◌≡◌, ◌++◌, drop}
use Rattle.mx_snapshot.specs.Looks.{all_now}
use Rattle.mx_lazy.specs.OfVisible.Walks.{all_sighted}
use Rattle.mx_parts.specs.Gathers.{all_sent}
use Rattle.mx_parts.specs.Readings.{sieve}
use Rattle.mx_parts.proofs.sending.sent_among.Given as goal

abbrev pub invariant-events : goal.invariant-events
invariant-events l = all_now l.made.items ++ all_sent (sieve l.reading) (all_sighted (drop l.event-index l.seen)) ≡ all_sent (sieve l.reading) (all_sighted l.seen)
