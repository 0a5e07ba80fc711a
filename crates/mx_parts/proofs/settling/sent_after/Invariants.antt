use Rattle.std.proofs.Common.{◌≡◌, ◌++◌, drop, filter, nat_lt}
use Rattle.mx_snapshot.specs.Looks.{all_now}
use Rattle.mx_parts.proofs.settling.sent_after.Given as goal

abbrev pub invariant-events : goal.invariant-events
invariant-events l =
    all_now l.made.items ++ filter (λ e. nat_lt l.from e.id.at) (all_now (drop l.event-index l.events)) ≡ filter (λ e. nat_lt l.from e.id.at) (all_now l.events)
