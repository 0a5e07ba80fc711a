use Rattle.std.proofs.Common.{◌≡◌}
use Rattle.mx_front.specs.Shown.{place_of, place_of_pass}
use Rattle.tests_streams.proofs.writes.fifty.Given as goal

abbrev pub invariant-writes : goal.invariant-writes
invariant-writes g l = place_of_pass l.pass ≡ place_of l.writers.stream
