-- The index of one event more.
use Rattle.std.proofs.Common.{◌≡◌, ℕ, Bool, true, false, cond, List, [], ◌∷◌, ◌++◌, Ordering, Less, Equal, Greater, map, fold, length, ◌+◌, slice_index_or, refl, sym, ap, ◌∙◌}
use Rattle.std.proofs.lemmas.List.{length-append}
use Rattle.std.specs.BTreeMap.{insert_entry}
use Rattle.std.specs.Ordering.{match_ordering}
use Rattle.mx_ids.specs.declared.room_id.RoomId.{RoomId}
use Rattle.mx_event.specs.Lawful.{same_room}
use Rattle.mx_event.specs.Shown.{position_of}
use Rattle.mx_event.specs.declared.event.Event.{Event}
use Rattle.mx_snapshot.specs.Events.{is_version, is_member, is_state, first_or, redacts, is_own, with_own, rooms_of, place_of, with_place}
use Rattle.mx_snapshot.specs.Lists.{room_cmp, one, room_at, version_at, own_at}
use Rattle.mx_snapshot.specs.Indexed.{IsIndexed}
use Rattle.mx_snapshot.specs.declared.event_index.EventIndex.{EventIndex}
use Rattle.mx_snapshot.proofs.Found.{positions_more}
use Rattle.mx_snapshot.proofs.Marks.{first_more}

-- ---- rooms of a user

one_place : (k : RoomId) (v : Event) (e : RoomId × Event) (es : List (RoomId × Event)) (o : Ordering)
    → map place_of (insert_entry room_cmp es k v) ≡ insert_entry room_cmp (map place_of es) k v.id.at
    → map place_of (match_ordering o ((k, v) ∷ e ∷ es) ((e.0, v) ∷ es) (e ∷ insert_entry room_cmp es k v))
    ≡ match_ordering o ((k, v.id.at) ∷ map place_of (e ∷ es)) ((e.0, v.id.at) ∷ map place_of es) (place_of e ∷ insert_entry room_cmp (map place_of es) k v.id.at)
one_place k v e es Less later = refl
one_place k v e es Equal later = refl
one_place k v e es Greater later = ap (λ l. place_of e ∷ l) later

insert_place : (es : List (RoomId × Event)) (k : RoomId) (v : Event) → map place_of (insert_entry room_cmp es k v) ≡ insert_entry room_cmp (map place_of es) k v.id.at
insert_place [] k v = refl
insert_place (e ∷ es) k v = one_place k v e es (room_cmp k e.0) (insert_place es k v)

places_with : (user : List ℕ) (rooms : List (RoomId × Event)) (e : Event) → map place_of (with_own user rooms e) ≡ with_place user (map place_of rooms) e
places_with user rooms e = by_test (is_own user e) where
  by_test : (b : Bool) → map place_of (cond b (insert_entry room_cmp rooms e.room e) rooms) ≡ cond b (insert_entry room_cmp (map place_of rooms) e.room e.id.at) (map place_of rooms)
  by_test true = insert_place rooms e.room e
  by_test false = refl

fold_more : {X A : Type 0} (f : A → X → A) (start : A) (xs : List X) (x : X) → fold f start (xs ++ x ∷ []) ≡ f (fold f start xs) x
fold_more f start [] x = refl
fold_more f start (y ∷ xs) x = fold_more f (f start y) xs x

-- ---- all of them

pub next_indexed : (old new : EventIndex) (es : List Event) (e : Event)
    → ((r : RoomId) → room_at new.rooms r ≡ room_at old.rooms r ++ one (same_room e.room r) e.id.at)
    → ((r : RoomId) → room_at new.members r ≡ room_at old.members r ++ one (is_member r e) e.id.at)
    → ((r : RoomId) → room_at new.states r ≡ room_at old.states r ++ one (is_state r e) e.id.at)
    → ((r : RoomId) (t k : List ℕ) → version_at new.versions r t k ≡ version_at old.versions r t k ++ one (is_version r t k e) e.id.at)
    → ((user : List ℕ) → own_at new.own user ≡ with_place user (own_at old.own user) e)
    → ((p : ℕ) → slice_index_or new.firsts.items p 0 ≡ first_or (slice_index_or old.firsts.items p 0) (redacts p e) e.id.at)
    → length new.firsts.items ≡ length old.firsts.items + 1
    → IsIndexed old es → IsIndexed new (es ++ e ∷ [])
next_indexed old new es e rooms members states versions own firsts marks was = record {
  rooms = λ r. rooms r ∙ ap (λ l. l ++ one (same_room e.room r) e.id.at) (was.rooms r) ∙ sym (positions_more position_of (λ (d : Event). same_room d.room r) es e);
  members = λ r. members r ∙ ap (λ l. l ++ one (is_member r e) e.id.at) (was.members r) ∙ sym (positions_more position_of (is_member r) es e);
  states = λ r. states r ∙ ap (λ l. l ++ one (is_state r e) e.id.at) (was.states r) ∙ sym (positions_more position_of (is_state r) es e);
  versions = λ r t k. versions r t k ∙ ap (λ l. l ++ one (is_version r t k e) e.id.at) (was.versions r t k) ∙ sym (positions_more position_of (is_version r t k) es e);
  own = λ user. own user ∙ ap (λ l. with_place user l e) (was.own user) ∙ sym (places_with user (rooms_of user es) e) ∙ ap (map place_of) (sym (fold_more (with_own user) [] es e));
  firsts = λ p. firsts p ∙ ap (λ n. first_or n (redacts p e) e.id.at) (was.firsts p) ∙ sym (first_more es e p);
  marks = marks ∙ ap (λ n. n + 1) was.marks ∙ sym (length-append es (e ∷ []));
}
