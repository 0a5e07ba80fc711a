use Rattle.std.proofs.Common.{◌≡◌}
use Rattle.mx_ids.specs.declared.room_id.RoomId.{RoomId}
use Rattle.mx_sync.specs.Candidates.{has_or_event}
use Rattle.mx_sync.proofs.candidates.add_events.Given as goal

abbrev pub invariant-events : goal.invariant-events
invariant-events l = (r : RoomId) → has_or_event l.snapshot.events l.rooms l.passed r ≡ has_or_event l.snapshot.events l.fn.rooms l.after r
