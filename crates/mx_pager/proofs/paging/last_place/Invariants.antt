use Rattle.std.proofs.Common.{◌≡◌, drop}
use Rattle.mx_snapshot.specs.Looks.{all_now}
use Rattle.mx_pager.specs.Pages as sent
use Rattle.mx_pager.proofs.paging.last_place.Given as goal

abbrev pub invariant-events : goal.invariant-events
invariant-events l = sent.last_place l.place (all_now (drop l.event-index l.events)) ≡ sent.last_place l.low (all_now l.events)
