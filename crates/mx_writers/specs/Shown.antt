-- What a clause reads of a shard.
use Rattle.std.specs.Prelude.{◌≡◌, ℕ, List}
use Rattle.atomic_table.specs.Seated.{TableId}
use Rattle.mx_core.specs.declared.history.Stored.{Stored}
use Rattle.mx_core.specs.declared.placed.Placed as placed
use Rattle.mx_front.specs.declared.front.Stream.{Stream}
use Rattle.mx_front.specs.declared.view.View.{View}
use Rattle.mx_front.specs.Shown.{known, place_of_pen}
use Rattle.mx_writers.specs.declared.folds.Folds.{Ghosts}
use Rattle.mx_writers.specs.declared.shards.Shard.{Shard}
use Rattle.mx_writers.specs.declared.shards.Writers.{Writers}

module _ {F I D E : Type 0} {g : Ghosts F I D E} {h : placed.Ghosts I} where
  -- the number of its writer, and the stream that it stores to
  abbrev pub writer_of : Shard F I D E g h → ℕ
  writer_of s = s.writer

  abbrev pub place_of_shard : Shard F I D E g h → TableId
  place_of_shard s = place_of_pen s.pen

  -- its own list, and what its pen knows
  abbrev pub own_of_shard : Shard F I D E g h → List (Stored I)
  own_of_shard s = (known s.pen).own

  abbrev pub known_by : Shard F I D E g h → View I
  known_by s = known s.pen

  -- it is the shard of a writer of a stream
  abbrev pub IsShardOf : ℕ → TableId → Shard F I D E g h → Type 0
  IsShardOf k at s = (s.writer ≡ k) × (place_of_pen s.pen ≡ at)

  -- the stream of some writers
  abbrev pub stream_of : Writers F I D E g h → Stream I
  stream_of w = w.stream
