use Rattle.std.proofs.Common.{◌≡◌, None}
use Rattle.mx_front.specs.Shown.{place_of, place_of_pen, place_of_pass, known}
use Rattle.tests_streams.proofs.streams.seventy.Given as goal

abbrev pub invariant-writes : goal.invariant-writes
invariant-writes g l = (place_of_pen l.pen ≡ place_of l.stream) × ((known l.pen).block ≡ None) × (place_of_pass l.pass ≡ place_of l.stream)
