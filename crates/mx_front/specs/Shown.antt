-- What a clause reads of a stream, a pen and a pass.
use Rattle.std.specs.Prelude.{ℕ, List}
use Rattle.atomic_table.specs.Seated.{TableId}
use Rattle.mx_core.specs.declared.history.Stored.{Stored}
use Rattle.mx_core.specs.declared.placed.Placed.{Ghosts}
use Rattle.mx_front.specs.declared.front.Stream.{Stream}
use Rattle.mx_front.specs.declared.handles.Pen.{Pen}
use Rattle.mx_front.specs.declared.handles.Pass.{Pass}
use Rattle.mx_front.specs.declared.view.View.{View}

module _ {I : Type 0} where
  -- which stream it is
  abbrev pub place_of : Stream I → TableId
  place_of s = s.table.shared.table_id

  -- how many writers it has, numbered from 0
  abbrev pub writers_of : Stream I → ℕ
  writers_of s = s.table.shared.key.writers

  -- no block is drawn once this many positions were
  abbrev pub stop_of : Stream I → ℕ
  stop_of s = s.stop

module _ {I : Type 0} {g : Ghosts I} where
  -- what a pen knows, the number of its writer, and the stream that it is a pen of
  abbrev pub known : Pen I g → View I
  known p = p.seat.me.0

  abbrev pub number : Pen I g → ℕ
  number p = p.writer

  abbrev pub place_of_pen : Pen I g → TableId
  place_of_pen p = p.seat.table_id

  abbrev pub own_of : Pen I g → List (Stored I)
  own_of p = p.seat.me.0.own

  -- what a pass knows, and the stream that it reads
  abbrev pub reads : Pass I g → View I
  reads p = p.seat.me.0

  abbrev pub place_of_pass : Pass I g → TableId
  place_of_pass p = p.seat.table_id

  abbrev pub seen_by : Pass I g → List (Stored I)
  seen_by p = p.seat.me.0.seen
