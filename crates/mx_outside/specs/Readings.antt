-- The readings of clocks.
use Rattle.std.specs.Prelude.{ℕ, ◌+◌, List, [], ◌∷◌, ◌++◌, min}

-- the greatest reading, in milliseconds: 2^53 - 1, the greatest integer of JSON (Appendices, Canonical JSON)
abbrev pub most_reading : ℕ
most_reading = 9007199254740991

-- a clock that is moved by its readings alone: the next reading and the step, with the last reading and all of them
pub record Steps : Type 0 where
  pub next : ℕ
  pub step : ℕ
  pub last : ℕ
  pub readings : List ℕ

-- the clock after a reading
abbrev pub read : Steps → Steps
read c = record {
  next = min (min c.next most_reading + c.step) most_reading;
  step = c.step;
  last = min c.next most_reading;
  readings = c.readings ++ min c.next most_reading ∷ [];
}
