use Rattle.std.specs.Prelude.{[], ◌∷◌, ◌++◌}
use Rattle.mx_event.specs.Lawful.{placed_event}
use Rattle.mx_auth.proofs.taken.Taken.placed.Given as goal

abbrev pub ghost-made_of : goal.ghost-made_of
ghost-made_of a = a._parts.now.0.now.events ++ placed_event a._parts.now.1.now a._parts.now.2 a._parts.now.3 ∷ []
