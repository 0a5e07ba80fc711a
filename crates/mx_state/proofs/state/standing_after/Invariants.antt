use Rattle.std.proofs.Common.{◌≡◌, ◌++◌, drop, filter}
use Rattle.mx_event.specs.Lawful.{of_room}
use Rattle.mx_snapshot.specs.Looks.{all_now}
use Rattle.mx_state.specs.Standing.{stands}
use Rattle.mx_state.proofs.state.standing_after.Given as goal

abbrev pub invariant-states : goal.invariant-states
invariant-states l = all_now l.made.items ++ filter (stands (of_room l.room l.events) l.to) (all_now (drop l.event-index l.event-items)) ≡ filter (stands (of_room l.room l.events) l.to) (all_now l.event-items)
