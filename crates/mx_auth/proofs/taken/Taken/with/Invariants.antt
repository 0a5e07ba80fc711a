use Rattle.std.specs.Prelude.{[], ◌∷◌, ◌++◌}
use Rattle.mx_auth.proofs.taken.Taken.with.Given as goal

abbrev pub ghost-made_of : goal.ghost-made_of
ghost-made_of a = a._parts.now.0.now.events ++ a._parts.now.1.now ∷ []
