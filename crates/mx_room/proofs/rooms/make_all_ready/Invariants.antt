use Rattle.std.proofs.Common.{◌≡◌, ◌++◌, take}
use Rattle.mx_room.proofs.rooms.make_all_ready.Given as goal

abbrev pub invariant-events : goal.invariant-events
invariant-events l =
    (l.state ≡ record l.fn.state { ready = l.fn.state.ready ++ take l.event-index l.events })
    × (l.ledger.rooms ≡ record l.fn.ledger.rooms { pending = l.fn.ledger.rooms.pending ++ take l.event-index l.events })
