-- One event of a room, by its position and by what the user sees.
use Rattle.std.proofs.Common.{◌≡◌, ℕ, Bool, true, cond, nat_eq, List, [], ◌∷◌, filter, Option, Some, None, ap, ap₂, subst, sym, ◌∙◌}
use Rattle.std.proofs.lemmas.Option.{same_Some}
use Rattle.std.specs.List.{AllByRecursion}
use Rattle.mx_ids.specs.declared.room_id.RoomId.{RoomId}
use Rattle.mx_window.specs.Lasts.{keep_if}
use Rattle.mx_window.specs.Windows.{stand_from}
use Rattle.mx_window.proofs.Each.{AllByRecursion-filter}
use Rattle.mx_event.specs.Lawful.{of_room, same_room}
use Rattle.mx_event.specs.Shown.{first_of, position_of}
use Rattle.mx_event.specs.declared.event.Event.{Event}
use Rattle.mx_event.proofs.Lawfully.{same_is}
use Rattle.mx_folding.specs.Visible.{is_visible}
use Rattle.mx_view.specs.Readings.{viewer_of}
use Rattle.mx_snapshot.specs.Looks.{at_position}
use Rattle.mx_fold.specs.Lists.{Lists, events_in}
use Rattle.mx_room_reads.specs.Places.{front_of}
use Rattle.mx_room_reads.specs.Reads.{IsListed, event_at}
use Rattle.mx_room_reads.proofs.Listed.{room_listed}
use Rattle.mx_room_reads.proofs.Placed.{found_at}

pub kept_is : (test : Event → Bool) (o : Option Event) (e : Event) (b : Bool) → o ≡ Some e → test e ≡ b → cond b (Some e) None ≡ keep_if test o
kept_is test o e b is same = sym (ap (keep_if test) is ∙ ap (λ t. cond t (Some e) None) same)

pub none_kept : (test : Event → Bool) (o : Option Event) → o ≡ None → None ≡ keep_if test o
none_kept test o is = sym (ap (keep_if test) is)

first_among : (P : Event → Type 0) (xs : List Event) (e : Event) → AllByRecursion P xs → first_of xs ≡ Some e → P e
first_among P [] e all is = absurd cc
first_among P (x ∷ xs) e all is = subst P (same_Some x e is) all.0

module _ (l : Lists) (room : RoomId) (placed : stand_from position_of 1 l.events ≡ true) (at : ℕ) where
  pub at_none : at_position l.events at ≡ None → None ≡ event_at l room at
  at_none is = none_kept (λ (e : Event). same_room e.room room) (at_position l.events at) is ∙ sym (found_at l room at placed)

  pub at_some : (e : Event) (b : Bool) → at_position l.events at ≡ Some e → same_room e.room room ≡ b → cond b (Some e) None ≡ event_at l room at
  at_some e b is same = kept_is (λ (d : Event). same_room d.room room) (at_position l.events at) e b is same ∙ sym (found_at l room at placed)

  pub at_listed : (e : Event) → Some e ≡ event_at l room at → IsListed l room e
  at_listed e is =
      first_among (IsListed l room) (filter (λ (d : Event). nat_eq d.id.at at) (events_in l room)) e
      (AllByRecursion-filter (IsListed l room) (λ (d : Event). nat_eq d.id.at at) (events_in l room) (room_listed l room placed)) (sym is)

-- what the user sees of an event of the room
pub seen_is : (l : Lists) (user : List ℕ) (room : RoomId) (e : Event) → IsListed l room e → (front : ℕ) → front ≡ front_of l
    → (b : Bool) → b ≡ is_visible (viewer_of user) (of_room e.room l.events) front e → is_visible (viewer_of user) (events_in l room) (front_of l) e ≡ b
seen_is l user room e listed front here b is =
    sym (is ∙ ap₂ (λ (r : RoomId) (n : ℕ). is_visible (viewer_of user) (of_room r l.events) n e) (same_is e.room room listed.1) here)
