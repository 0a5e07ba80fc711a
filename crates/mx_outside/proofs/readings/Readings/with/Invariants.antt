use Rattle.std.specs.Prelude.{[], ◌∷◌, ◌++◌}
use Rattle.mx_outside.proofs.readings.Readings.with.Given as goal

abbrev pub ghost-made_of : goal.ghost-made_of
ghost-made_of a = a._parts.now.0.now.all ++ a._parts.now.1 ∷ []
