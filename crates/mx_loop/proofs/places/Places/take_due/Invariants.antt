use Rattle.std.proofs.Common.{◌≡◌}
use Rattle.mx_loop.proofs.places.Places.take_due.Given as goal

abbrev pub invariant-due : goal.invariant-due
invariant-due g l = l.self.sessions.pass ≡ l.initial.self.sessions.pass
