-- The numbers that bound a stream, each in this one place.
use Rattle.std.specs.Prelude.{ℕ}

-- the writers of a stream
abbrev pub most_writers : ℕ
most_writers = 16

-- the positions of one block
abbrev pub most_drawn : ℕ
most_drawn = 512

-- the positions that all writers hold together: 512 for each of 16
abbrev pub most_held : ℕ
most_held = 8192

-- the greatest stop of a stream: whatever is drawn past it, each position is below 2^48
abbrev pub last_stop : ℕ
last_stop = 281474976694272
