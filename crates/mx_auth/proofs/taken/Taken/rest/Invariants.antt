use Rattle.std.specs.Prelude.{drop}
use Rattle.mx_auth.proofs.taken.Taken.rest.Given as goal

abbrev pub ghost-made_of : goal.ghost-made_of
ghost-made_of a = drop 1 a._parts.now.events
