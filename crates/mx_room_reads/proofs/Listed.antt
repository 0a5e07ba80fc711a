-- What is read of a room are events of its list, found at their positions.
use Rattle.std.proofs.Common.{◌≡◌, ℕ, true, false, [], ◌&&◌, nat_lt, nat_le, List, filter, Option, Some, None, sym}
use Rattle.std.specs.Borrow.{Bor}
use Rattle.std.specs.Option.{option_copied}
use Rattle.std.specs.Prelude.{Bool, IfSome}
use Rattle.mx_ids.specs.declared.room_id.RoomId.{RoomId}
use Rattle.mx_window.specs.Lasts.{current, last_of}
use Rattle.mx_window.specs.Windows.{between, stand_from}
use Rattle.mx_window.proofs.Each.{AllByRecursion-both, AllByRecursion-filter, AllByRecursion-passed}
use Rattle.mx_window.proofs.Lasts.{AllByRecursion-current, last_of-some}
use Rattle.mx_event.specs.Kinds.{is_of, member_type}
use Rattle.mx_event.specs.Lawful.{same_room}
use Rattle.mx_event.specs.Shown.{position_of}
use Rattle.mx_event.specs.declared.event.Event.{Event}
use Rattle.mx_folding.specs.Parts.{state_list}
use Rattle.mx_folding.specs.Rooms.{is_state, sets_same}
use Rattle.mx_view.specs.Rooms.{Sieve, room_of}
use Rattle.mx_parts.specs.Lazy.Members.{members_at, plain}
use Rattle.mx_snapshot.specs.Looks.{at_position}
use Rattle.mx_parts.proofs.Placed.{all_found}
use Rattle.mx_fold.specs.Lists.{Lists, events_in}
use Rattle.mx_room_reads.specs.Reads.{AreListed, IsListed}

module _ (l : Lists) (room : RoomId) (placed : stand_from position_of 1 l.events ≡ true) where
  pub room_listed : AreListed l room (events_in l room)
  room_listed =
      AllByRecursion-both (λ (e : Event). at_position l.events e.id.at ≡ Some e) (λ (e : Event). same_room e.room room ≡ true) (events_in l room)
      (AllByRecursion-filter (λ (e : Event). at_position l.events e.id.at ≡ Some e) (λ (e : Event). same_room e.room room) l.events (all_found l.events placed))
      (AllByRecursion-passed (λ (e : Event). same_room e.room room) l.events)

  window_listed : (high : ℕ) → AreListed l room (between position_of 0 high (events_in l room))
  window_listed high = AllByRecursion-filter (IsListed l room) (λ (e : Event). nat_lt 0 e.id.at && nat_le e.id.at high) (events_in l room) room_listed

  pub states_listed : (place : ℕ) → AreListed l room (state_list plain (events_in l room) place)
  states_listed place =
      AllByRecursion-filter (IsListed l room) (is_state plain) (current (sets_same plain) (between position_of 0 place (events_in l room)))
      (AllByRecursion-current (IsListed l room) (sets_same plain) (between position_of 0 place (events_in l room)) (window_listed place))

  pub members_listed : (test : Event → Bool) (place : ℕ) → AreListed l room (filter test (members_at (events_in l room) place))
  members_listed test place =
      AllByRecursion-filter (IsListed l room) test (members_at (events_in l room) place)
      (AllByRecursion-filter (IsListed l room) (is_of member_type) (state_list plain (events_in l room) place) (states_listed place))

  pub last_listed : (test : Event → Bool) (high : ℕ) (o : Option (Bor Event)) → option_copied o ≡ last_of test (between position_of 0 high (events_in l room))
      → IfSome o (λ e. IsListed l room e.now)
  last_listed test high None is = tt
  last_listed test high (Some e) is = (last_of-some (IsListed l room) test (between position_of 0 high (events_in l room)) e.now (window_listed high) (sym is)).1

abbrev pub unfiltered : Sieve
unfiltered = record { keeps = λ e. true; keeps_type = λ kind. true; passes = λ e. true; lazy = false }

-- the state without a filter is that of any filter
pub state_is : (l : Lists) (room : RoomId) (place : ℕ) (made : List Event)
    → ((f : Sieve) (user : List ℕ) → made ≡ state_list (room_of f user (events_in l room)) (events_in l room) place) → made ≡ state_list plain (events_in l room) place
state_is l room place made is = is unfiltered []
