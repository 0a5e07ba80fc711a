-- The positions of a book's events.
use Rattle.std.proofs.Common.{◌≡◌, ℕ, ◌+◌, ◌<◌, ◌≤◌, List, [], ◌∷◌, ◌++◌, length, sym, subst, arith}
use Rattle.std.specs.List.{AllByRecursion}
use Rattle.mx_core.specs.History.{items_of, placed_from}
use Rattle.mx_core.specs.declared.history.Stored.{Stored}
use Rattle.mx_event.specs.Lawful.{placed_event}
use Rattle.mx_event.specs.declared.event.Event.{Event}
use Rattle.mx_room.specs.Books.{Rooms, events_of, placed_block, taken_in}
use Rattle.mx_room.proofs.Taking.{items_more}

placed_below : (first at bound : ℕ) (es : List Event) → at + length es ≤ bound → AllByRecursion (λ (e : Event). e.id.at < bound) (placed_from placed_event first at es)
placed_below first at bound [] h = tt
placed_below first at bound (e ∷ es) h = (omega (arith, h), placed_below first (at + 1) bound es (omega (arith, h)))

raised : (low high : ℕ) → low ≤ high → (es : List Event) → AllByRecursion (λ (e : Event). e.id.at < low) es → AllByRecursion (λ (e : Event). e.id.at < high) es
raised low high l [] h = tt
raised low high l (e ∷ es) h = (omega (arith, l, h.0), raised low high l es h.1)

both_below : (bound : ℕ) (es fs : List Event) → AllByRecursion (λ (e : Event). e.id.at < bound) es → AllByRecursion (λ (e : Event). e.id.at < bound) fs
    → AllByRecursion (λ (e : Event). e.id.at < bound) (es ++ fs)
both_below bound [] fs h k = k
both_below bound (e ∷ es) fs h k = (h.0, both_below bound es fs h.1 k)

-- a book whose positions are below a first one has them below the end of the block that stands from there on
pub taken_below : (b : Rooms) (first : ℕ) → AllByRecursion (λ (e : Event). e.id.at < first) (events_of b) → AllByRecursion (λ (e : Event). e.id.at < first + length b.pending) (events_of (taken_in b first))
taken_below b first h =
    let bound = first + length b.pending in
    subst (AllByRecursion (λ (e : Event). e.id.at < bound)) (sym (items_more b.stores (record { writer = b.writer; first = first; items = placed_block b first })))
    (both_below bound (events_of b) (placed_block b first) (raised first bound (omega arith) (events_of b) h) (placed_below first first bound b.pending (omega arith)))

-- a block that is the first of a writer
pub first_below : (b new : Rooms) (first count : ℕ) → b.stores ≡ [] → length b.pending ≡ count → new ≡ taken_in b first → AllByRecursion (λ (e : Event). e.id.at < first + count) (events_of new)
first_below b new first count none size is =
    subst (λ (c : Rooms). AllByRecursion (λ (e : Event). e.id.at < first + count) (events_of c)) (sym is)
    (subst (λ n. AllByRecursion (λ (e : Event). e.id.at < first + n) (events_of (taken_in b first))) size
    (taken_below b first (subst (λ (ss : List (Stored Event)). AllByRecursion (λ (e : Event). e.id.at < first) (items_of ss)) (sym none) tt)))
