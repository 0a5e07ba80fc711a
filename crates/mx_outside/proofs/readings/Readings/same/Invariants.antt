use Rattle.mx_outside.proofs.readings.Readings.same.Given as goal

abbrev pub ghost-made_of : goal.ghost-made_of
ghost-made_of a = a._parts.now.all
