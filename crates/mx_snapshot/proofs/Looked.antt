-- Events that the index finds.
use Rattle.std.proofs.Common.{◌≡◌, ℕ, ◌≤◌, Bool, true, false, cond, ◌&&◌, length, List, [], ◌∷◌, ◌++◌, Option, Some, is_some, map, filter, fold, option_map, nat_le, nat_lt, Ordering, Less, Equal, Greater, refl, sym, subst, ap, ap₂, ◌∙◌}
use Rattle.std.specs.List.{AllByRecursion}
use Rattle.std.specs.BTreeMap.{insert_entry}
use Rattle.std.specs.Ordering.{match_ordering}
use Rattle.std.specs.Option.{option_to_list}
use Rattle.mx_ids.specs.declared.room_id.RoomId.{RoomId}
use Rattle.mx_window.specs.Lasts.{last_of}
use Rattle.mx_window.specs.Windows.{stand_from, between}
use Rattle.mx_event.specs.Kinds.{has_key}
use Rattle.mx_event.specs.Lawful.{of_room, same_room}
use Rattle.mx_event.specs.Shown.{position_of}
use Rattle.mx_event.specs.declared.event.Event.{Event}
use Rattle.mx_snapshot.specs.Events.{later, states, is_state, versions, is_version, is_own, with_own, rooms_of, place_of}
use Rattle.mx_snapshot.specs.Halving.{search_cost}
use Rattle.mx_snapshot.specs.Lists.{room_cmp}
use Rattle.mx_snapshot.specs.Looks.{at_position, own_looked, with_room}
use Rattle.mx_snapshot.proofs.Found.{Found, all_found, filter_positions, in_position, last_among, last_same, length_positions, test_last}

and_swap : (a b c : Bool) → (a && (b && c)) ≡ (b && (a && c))
and_swap true b c = refl
and_swap false true c = refl
and_swap false false c = refl

swapped : (r w k : Event → Bool) (es : List Event) → AllByRecursion (λ (e : Event). (w e && (r e && k e)) ≡ (r e && (w e && k e))) es
swapped r w k [] = tt
swapped r w k (e ∷ es) = (and_swap (w e) (r e) (k e), swapped r w k es)

-- a room's last version in a window is the last in the window of the room
pub last_version : (es : List Event) (room : RoomId) (kind key : List ℕ) (last : ℕ) (ps : List ℕ) (o : Option ℕ) → stand_from position_of 1 es ≡ true → ps ≡ map position_of (versions room kind key es)
    → o ≡ last_of (λ p. nat_le p last) ps → in_position es o ≡ last_of (has_key kind key) (between position_of 0 last (of_room room es))
last_version es room kind key last ps o placed is found =
    let window = λ (e : Event). nat_lt 0 e.id.at && nat_le e.id.at last in
    let room_is = λ (e : Event). same_room e.room room in
    test_last position_of es (is_version room kind key) ps placed is last o found
    ∙ last_same (λ (e : Event). window e && (room_is e && has_key kind key e)) (λ (e : Event). room_is e && (window e && has_key kind key e)) es (swapped room_is window (has_key kind key) es)
    ∙ sym (last_among (λ (e : Event). window e && has_key kind key e) room_is es)
    ∙ sym (last_among (has_key kind key) window (of_room room es))

-- a room's last event up to a position
pub last_event : (es : List Event) (room : RoomId) (high : ℕ) (ps : List ℕ) (o : Option ℕ) → stand_from position_of 1 es ≡ true → ps ≡ map position_of (of_room room es)
    → o ≡ last_of (λ p. nat_le p high) ps → in_position es o ≡ last_of (λ e. true) (between position_of 0 high (of_room room es))
last_event es room high ps o placed is found =
    let window = λ (e : Event). nat_lt 0 e.id.at && nat_le e.id.at high in
    let room_is = λ (e : Event). same_room e.room room in
    test_last position_of es room_is ps placed is high o found
    ∙ last_same (λ (e : Event). window e && room_is e) (λ (e : Event). room_is e && (window e && true)) es (all_turned window room_is es)
    ∙ sym (last_among (λ (e : Event). window e && true) room_is es)
    ∙ sym (last_among (λ (e : Event). true) window (of_room room es)) where
      turned : (a b : Bool) → (a && b) ≡ (b && (a && true))
      turned true true = refl
      turned true false = refl
      turned false true = refl
      turned false false = refl

      all_turned : (p q : Event → Bool) (es : List Event) → AllByRecursion (λ (e : Event). (p e && q e) ≡ (q e && (p e && true))) es
      all_turned p q [] = tt
      all_turned p q (e ∷ es) = (turned (p e) (q e), all_turned p q es)

-- a room's last state event up to a position
pub last_state_event : (es : List Event) (room : RoomId) (high : ℕ) (ps : List ℕ) (o : Option ℕ) → stand_from position_of 1 es ≡ true → ps ≡ map position_of (states room es)
    → o ≡ last_of (λ p. nat_le p high) ps → in_position es o ≡ last_of (λ e. is_some e.state_key) (between position_of 0 high (of_room room es))
last_state_event es room high ps o placed is found =
    let window = λ (e : Event). nat_lt 0 e.id.at && nat_le e.id.at high in
    let room_is = λ (e : Event). same_room e.room room in
    let keyed = λ (e : Event). is_some e.state_key in
    test_last position_of es (is_state room) ps placed is high o found
    ∙ last_same (λ (e : Event). window e && (room_is e && keyed e)) (λ (e : Event). room_is e && (window e && keyed e)) es (swapped room_is window keyed es)
    ∙ sym (last_among (λ (e : Event). window e && keyed e) room_is es)
    ∙ sym (last_among keyed window (of_room room es))

-- ---- a user's rooms

RoomFound : List Event → RoomId × Event → Type 0
RoomFound es r = at_position es r.1.id.at ≡ Some r.1

own_looked_is : (es : List Event) (rs : List (RoomId × Event)) → AllByRecursion (λ (r : RoomId × Event). at_position es r.1.id.at ≡ Some r.1) rs → own_looked es (map place_of rs) ≡ rs
own_looked_is es [] found = refl
own_looked_is es (r ∷ rs) found = ap₂ (λ (o : Option Event) l. option_to_list (option_map (with_room r.0) o) ++ l) found.0 (own_looked_is es rs found.1)

found_inserted : (es : List Event) (k : RoomId) (v : Event) (rs : List (RoomId × Event)) → Found position_of es v → AllByRecursion (λ (r : RoomId × Event). at_position es r.1.id.at ≡ Some r.1) rs
    → AllByRecursion (λ (r : RoomId × Event). at_position es r.1.id.at ≡ Some r.1) (insert_entry room_cmp rs k v)
found_inserted es k v [] here found = (here, tt)
found_inserted es k v (r ∷ rs) here found = by_order (room_cmp k r.0) (found_inserted es k v rs here found.1) where
  by_order : (o : Ordering) → AllByRecursion (λ (r : RoomId × Event). at_position es r.1.id.at ≡ Some r.1) (insert_entry room_cmp rs k v)
      → AllByRecursion (λ (r : RoomId × Event). at_position es r.1.id.at ≡ Some r.1) (match_ordering o ((k, v) ∷ r ∷ rs) ((r.0, v) ∷ rs) (r ∷ insert_entry room_cmp rs k v))
  by_order Less later = (here, found)
  by_order Equal later = (here, found.1)
  by_order Greater later = (found.0, later)

found_folded : (es : List Event) (user : List ℕ) (rs : List (RoomId × Event)) (xs : List Event) → AllByRecursion (Found position_of es) xs → AllByRecursion (λ (r : RoomId × Event). at_position es r.1.id.at ≡ Some r.1) rs
    → AllByRecursion (λ (r : RoomId × Event). at_position es r.1.id.at ≡ Some r.1) (fold (with_own user) rs xs)
found_folded es user rs [] all found = found
found_folded es user rs (x ∷ xs) all found = found_folded es user (with_own user rs x) xs all.1 (by_test (is_own user x)) where
  by_test : (b : Bool) → AllByRecursion (λ (r : RoomId × Event). at_position es r.1.id.at ≡ Some r.1) (cond b (insert_entry room_cmp rs x.room x) rs)
  by_test true = found_inserted es x.room x rs all.0 found
  by_test false = found

pub own_is : (es : List Event) (user : List ℕ) (entries : List (RoomId × ℕ)) → stand_from position_of 1 es ≡ true → entries ≡ map place_of (rooms_of user es) → own_looked es entries ≡ rooms_of user es
own_is es user entries placed is = ap (own_looked es) is ∙ own_looked_is es (rooms_of user es) (found_folded es user [] es (all_found position_of es placed) tt)

pub no_rooms : (rs : List (RoomId × Event)) → [] ≡ map place_of rs → [] ≡ rs
no_rooms [] is = refl
no_rooms (r ∷ rs) is = absurd cc

-- what is bounded by the number of later positions is bounded by that of the later events
pub few_steps : (n last : ℕ) (ps : List ℕ) (xs ys : List Event) → ps ≡ map position_of xs → xs ≡ ys → n ≤ search_cost (length (filter (λ p. nat_lt last p) ps)) → n ≤ search_cost (length (later last ys))
few_steps n last ps xs ys is same few =
    subst (λ k. n ≤ search_cost k)
    (ap (λ l. length (filter (λ p. nat_lt last p) l)) is ∙ ap length (filter_positions position_of (λ p. nat_lt last p) xs) ∙ length_positions position_of (later last xs) ∙ ap (λ l. length (later last l)) same) few
