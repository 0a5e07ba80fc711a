-- That an admitted block may be stored after the writer's own stores.
use Rattle.std.specs.Prelude.{◌≡◌, ℕ, ◌<◌, true, List, Ok}
use Rattle.std.specs.List.{AllByRecursion}
use Rattle.mx_core.specs.History.{placed_from}
use Rattle.mx_event.specs.Lawful.{lawful_store, placed_event}
use Rattle.mx_event.specs.declared.draft.Draft.{Draft}
use Rattle.mx_event.specs.declared.event.Event.{Event}
use Rattle.mx_room.specs.Books.{Rooms, events_of}
use Rattle.mx_room.specs.Storing.{IsLawful}
use Rattle.mx_create.specs.Admitted.{IsBlock, admitted_block}

-- it is a lawful store from each position above those of the writer's events
abbrev pub BlockIsLawful : Type 0
BlockIsLawful = (b : Rooms) (drafts : List Draft) (es : List Event) (first : ℕ) → IsLawful b → IsBlock drafts → admitted_block b.writer drafts ≡ Ok es
    → AllByRecursion (λ (e : Event). e.id.at < first) (events_of b) → lawful_store b.writer b.stores first (placed_from placed_event first first es) ≡ true
