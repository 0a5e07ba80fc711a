use Rattle.std.specs.Prelude.{[], ◌∷◌, ◌++◌}
use Rattle.mx_room.proofs.ledger.Ledger.with.Given as goal

abbrev pub ghost-made_of : goal.ghost-made_of
ghost-made_of a = record a._parts.now.0.now.rooms { pending = a._parts.now.0.now.rooms.pending ++ a._parts.now.1.now ∷ [] }
