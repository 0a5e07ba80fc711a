-- That what a room admits may be stored after the writer's own stores.
use Rattle.std.specs.Prelude.{◌≡◌, ℕ, true, [], ◌∷◌, Ok}
use Rattle.mx_core.specs.History.{IsLane}
use Rattle.mx_event.specs.Lawful.{lawful_store, placed_event}
use Rattle.mx_event.specs.declared.draft.Draft.{Draft}
use Rattle.mx_room.specs.declared.admitted.Admitted.TheVariants as admitted
use Rattle.mx_room.specs.declared.admitted.Ready.{Ready}
use Rattle.mx_room.specs.Admitting.{admitted_by}
use Rattle.mx_room.specs.Books.{Rooms}

-- the stores are the writer's own, each lawful after those before it
abbrev pub IsLawful : Rooms → Type 0
IsLawful b = IsLane lawful_store b.writer b.stores

-- an event that is ready is a lawful store of its writer, wherever it stands
abbrev pub ReadyIsLawful : Type 0
ReadyIsLawful = (b : Rooms) (d : Draft) (r : Ready) (first : ℕ) → IsLawful b → admitted_by b d ≡ Ok (admitted.Ready r)
    → lawful_store b.writer b.stores first (placed_event r.event first first ∷ []) ≡ true
