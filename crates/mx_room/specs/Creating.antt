-- The events that create a room.
use Rattle.std.specs.Prelude.{◌≡◌, ℕ, None}
use Rattle.mx_event.specs.declared.event.Event.{Event}

-- an event of a block that creates a room of a writer
abbrev pub IsNew : ℕ → Event → Type 0
IsNew writer e = (e.room ≡ record { writer = writer; at = 0 }) × (e.txn ≡ None)
