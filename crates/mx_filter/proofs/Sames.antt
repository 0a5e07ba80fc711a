-- Filters that are the same by their lists are equal; a filter that folds picks by type.
use Rattle.std.proofs.Common.{◌≡◌, refl, ℕ, Bool, true, false, ◌&&◌, not, List, [], ◌∷◌, Option, Some, None, is_none, sym, ap, ap₂, ◌∙◌, subst}
use Rattle.std.proofs.lemmas.Bool.{and_parts}
use Rattle.std.proofs.lemmas.Slice.Eq.{bytes_eq-Decides}
use Rattle.std.specs.Str.{bytes_eq}
use Rattle.mx_view.specs.OfEvent.Event.{Event}
use Rattle.mx_ids.specs.declared.room_id.RoomId.{RoomId}
use Rattle.mx_view.specs.Rooms.{PicksByType}
use Rattle.mx_filter.specs.Passes.{event_passes, room_passes, selects, type_passes, url_passes}
use Rattle.mx_filter.specs.Sieves.{fits, folds, is_empty, same_choice, same_events, same_filter, same_list, same_texts, same_truth, same_types, sieve_of, FoldsByType, PagesFit, SameFilters}
use Rattle.mx_filter.specs.declared.parts.EventFilter.{EventFilter}
use Rattle.mx_filter.specs.declared.parts.Selection.{Selection}
use Rattle.mx_filter.specs.declared.parts.TypeFilter.{TypeFilter}

texts_are : (ds es : List (List ℕ)) → same_texts ds es ≡ true → ds ≡ es
texts_are [] [] e = refl
texts_are [] (x ∷ es) e = absurd cc
texts_are (d ∷ ds) [] e = absurd cc
texts_are (d ∷ ds) (x ∷ es) e = let parts = and_parts (bytes_eq d x) (same_texts ds es) e in ap₂ (λ a b. a ∷ b) ((bytes_eq-Decides d x).0 parts.0) (texts_are ds es parts.1)

list_is : (d e : Option (List (List ℕ))) → same_list d e ≡ true → d ≡ e
list_is None None e = refl
list_is None (Some es) e = absurd cc
list_is (Some ds) None e = absurd cc
list_is (Some ds) (Some es) e = ap (λ l. Some l) (texts_are ds es e)

truth_is : (a b : Bool) → same_truth a b ≡ true → a ≡ b
truth_is true true e = refl
truth_is true false e = absurd cc
truth_is false true e = absurd cc
truth_is false false e = refl

choice_is : (a b : Option Bool) → same_choice a b ≡ true → a ≡ b
choice_is None None e = refl
choice_is None (Some b) e = absurd cc
choice_is (Some a) None e = absurd cc
choice_is (Some a) (Some b) e = ap (λ t. Some t) (truth_is a b e)

types_are : (f g : TypeFilter) → same_types f g ≡ true → f ≡ g
types_are f g e =
    let parts = and_parts (same_list f.types g.types) (same_texts f.not_types g.not_types) e in
    λ i. record { types = list_is f.types g.types parts.0 i; not_types = texts_are f.not_types g.not_types parts.1 i }

events_are : (f g : EventFilter) → same_events f g ≡ true → f ≡ g
events_are f g e =
    let p1 = and_parts _ _ e in
    let p2 = and_parts _ _ p1.1 in
    let p3 = and_parts _ _ p2.1 in
    let p4 = and_parts _ _ p3.1 in
    let p5 = and_parts _ _ p4.1 in
    λ i. record {
      kinds = types_are f.kinds g.kinds p1.0 i;
      senders = list_is f.senders g.senders p2.0 i;
      not_senders = texts_are f.not_senders g.not_senders p3.0 i;
      rooms = list_is f.rooms g.rooms p4.0 i;
      not_rooms = texts_are f.not_rooms g.not_rooms p5.0 i;
      contains_url = choice_is f.contains_url g.contains_url p5.1 i;
    }

pub filters_are : SameFilters
filters_are f g e =
    let p1 = and_parts _ _ e in
    let p2 = and_parts _ _ p1.1 in
    let p3 = and_parts _ _ p2.1 in
    let p4 = and_parts _ _ p3.1 in
    let p5 = and_parts _ _ p4.1 in
    let p6 = and_parts _ _ p5.1 in
    let p7 = and_parts _ _ p6.1 in
    let p8 = and_parts _ _ p7.1 in
    let p9 = and_parts _ _ p8.1 in
    λ i. record {
      rooms = list_is f.rooms g.rooms p1.0 i;
      not_rooms = texts_are f.not_rooms g.not_rooms p2.0 i;
      include_leave = truth_is f.include_leave g.include_leave p3.0 i;
      state = events_are f.state g.state p4.0 i;
      timeline = events_are f.timeline g.timeline p5.0 i;
      ephemeral = types_are f.ephemeral g.ephemeral p6.0 i;
      room_account = types_are f.room_account g.room_account p7.0 i;
      account = types_are f.account g.account p8.0 i;
      lazy = truth_is f.lazy g.lazy p9.0 i;
      redundant = truth_is f.redundant g.redundant p9.1 i;
    }

-- without lists of senders and without `contains_url` nothing but type and room is judged
open_senders : (wanted : Option (List (List ℕ))) (unwanted : List (List ℕ)) (sender : List ℕ) → is_none wanted ≡ true → is_empty unwanted ≡ true → selects (bytes_eq sender) wanted unwanted ≡ true
open_senders None [] sender none empty = refl
open_senders None (x ∷ xs) sender none empty = absurd cc
open_senders (Some ws) unwanted sender none empty = absurd cc

open_url : (wanted : Option Bool) (has_url : Bool) → is_none wanted ≡ true → url_passes wanted has_url ≡ true
open_url None has_url none = refl
open_url (Some b) has_url none = absurd cc

and_true : (b : Bool) → (b && true) ≡ b
and_true true = refl
and_true false = refl

pub by_type : FoldsByType
by_type server f fold room e =
    let senders = and_parts _ _ fold in
    let rest = and_parts _ _ senders.1 in
    let kind : Bool = type_passes f.state.kinds e.kind in
    let in_room : Bool = room_passes server f.state.rooms f.state.not_rooms room in
    ap₂ (λ s u. kind && (s && (in_room && u))) (open_senders f.state.senders f.state.not_senders e.sender senders.0 rest.0) (open_url f.state.contains_url e.has_url rest.1)
    ∙ ap (λ b. kind && b) (and_true in_room)

pub pages : PagesFit
pages server f p fit room =
    let parts = and_parts _ _ fit in
    (ap (λ t. event_passes server t room) (sym (events_are f.timeline p.timeline parts.0)), sym (truth_is f.lazy p.lazy parts.1))
