use Rattle.std.specs.Prelude.{[]}
use Rattle.mx_outside.proofs.readings.Readings.none.Given as goal

abbrev pub ghost-made_of : goal.ghost-made_of
ghost-made_of a = []
