-- What the start of a stream gives.
use Rattle.std.specs.Prelude.{◌≡◌, ℕ, List, [], length, slice_get, Some}
use Rattle.atomic_table.specs.Seated.{TableId}
use Rattle.mx_core.specs.declared.placed.Placed.{Ghosts}
use Rattle.mx_front.specs.declared.handles.Pen.{Pen}
use Rattle.mx_front.specs.declared.handles.Pass.{Pass}
use Rattle.mx_front.specs.declared.view.Right.TheVariants.{Alone}
use Rattle.mx_front.specs.declared.view.Role.TheVariants as roles
use Rattle.mx_front.specs.World.{blank}
use Rattle.mx_front.specs.Shown.{known, number, place_of_pen, reads, seen_by, place_of_pass}

module _ {I : Type 0} {g : Ghosts I} where
  -- the pen of a writer of a stream of so many, without a store, a block or a reserve, which has seen nothing
  pub record IsNewPen (at : TableId) (writers k : ℕ) (p : Pen I g) : Type 0 where
    pub stream : place_of_pen p ≡ at
    pub writer : number p ≡ k
    pub knows : known p ≡ blank writers (roles.Pen k)

  -- the pens of the first n writers, in their order
  pub record AreNewPens (at : TableId) (writers n : ℕ) (pens : List (Pen I g)) : Type 0 where
    pub count : length pens ≡ n
    pub each : (k : ℕ) (p : Pen I g) → slice_get pens k ≡ Some p → IsNewPen at writers k p

  -- a pass that has seen nothing and never looked, and that alone may store
  pub record IsNewPass (at : TableId) (writers : ℕ) (p : Pass I g) : Type 0 where
    pub stream : place_of_pass p ≡ at
    pub seen : seen_by p ≡ []
    pub read : (reads p).read ≡ 0
    pub looks : (reads p).looks ≡ 0
    pub bound : (reads p).writers ≡ writers
    pub right : (reads p).right ≡ Alone
