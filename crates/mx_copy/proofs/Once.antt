-- Rooms that stand once in a list, by their ids and by the texts of these.
use Rattle.std.proofs.Common.{◌≡◌, ◌≢◌, ℕ, Bool, true, false, cond, T, not, ◌&&◌, ◌||◌, List, [], ◌∷◌, map, fold, filter_map, Option, Some, None, option_map, Less, Greater, is_lt, if◌then◌else◌, refl, sym, ap, ap₂, ◌∙◌, inl, inr}
use Rattle.std.proofs.lemmas.Bool.{and_parts, cases_Bool, eq-eqb, or_parts}
use Rattle.std.proofs.lemmas.Cmp.{nat_cmp_total, on_total, then_total}
use Rattle.std.proofs.lemmas.Option.{same_Some}
use Rattle.std.specs.BTreeMap.{insert_entry}
use Rattle.std.proofs.lemmas.Slice.Eq.{bytes_eq-Decides}
use Rattle.std.specs.Cmp.{IsTotalOrder}
use Rattle.std.specs.FinMap.Entries.{below_all, is_sorted}
use Rattle.std.specs.List.{cons_option, list_any}
use Rattle.std.specs.Ordering.{ordering_reverse}
use Rattle.std.specs.Option.{option_or}
use Rattle.std.specs.Str.{bytes_eq}
use Rattle.mx_ids.specs.Ids.{room_id_text}
use Rattle.mx_ids.specs.declared.room_id.RoomId.{RoomId}
use Rattle.mx_ids.proofs.Ids.{same_room as same_room_text}
use Rattle.mx_window.specs.Lasts.{last_of}
use Rattle.mx_window.proofs.Lasts.{last_of-none, option_or-none}
use Rattle.mx_event.specs.Lawful.{same_room}
use Rattle.mx_event.specs.declared.event.Event.{Event}
use Rattle.mx_event.proofs.Lawfully.{same_is}
use Rattle.mx_event.proofs.Texts.{miss}
use Rattle.mx_fold.specs.Lists.{Lists}
use Rattle.mx_fold.specs.Replies.{SyncAsk}
use Rattle.mx_folding.specs.Stories.{Told, Nothing, Anew, More, Invited, Left}
use Rattle.mx_rest.specs.declared.room_view.RoomDelta.{RoomDelta}
use Rattle.mx_rest.specs.declared.room_view.RoomView.{RoomView}
use Rattle.mx_fold.proofs.Latest.{all_sorted, left, less_is, right}
use Rattle.mx_snapshot.specs.Events.{is_own, rooms_of, with_own}
use Rattle.mx_snapshot.specs.Lists.{room_cmp}
use Rattle.mx_sync.specs.Reads.{find_room}
use Rattle.mx_sync.specs.Replies.{invited_of, joined_of, left_of, said_by, said_of, told_of}
use Rattle.mx_sync.specs.declared.room_reply.RoomReply.{RoomReply}
use Rattle.mx_sync.specs.declared.sync_reply.InvitedRoom.{InvitedRoom}
use Rattle.mx_sync.specs.declared.sync_reply.JoinedRoom.{JoinedRoom}
use Rattle.mx_sync.specs.declared.sync_reply.LeftRoom.{LeftRoom}
use Rattle.mx_copy.specs.Laws.{OthersAreAbsent, RepliesHaveRoomsOnce, RoomsAreFound, are_once}
use Rattle.mx_copy.specs.Sent.{invited_sent, joined_sent, left_sent}
use Rattle.mx_copy.proofs.Tests.{agree, none_passes}

-- ---- by their texts

text_test : (server : List ℕ) (r s : RoomId) → bytes_eq (room_id_text server r) (room_id_text server s) ≡ same_room r s
text_test server r s = agree (bytes_eq (room_id_text server r) (room_id_text server s)) (same_room r s)
    (λ same. same_from r s (same_room_text server r s ((bytes_eq-Decides (room_id_text server r) (room_id_text server s)).0 same)))
    (λ same. (bytes_eq-Decides (room_id_text server r) (room_id_text server s)).1 (ap (room_id_text server) (same_is r s same)))
  where
    same_from : (r s : RoomId) → r ≡ s → same_room r s ≡ true
    same_from r s is = ap (same_room r) (sym is) ∙ ap₂ (λ a b. a && b) (eq-eqb r.writer r.writer refl) (eq-eqb r.at r.at refl)

was_false : (b : Bool) → not b ≡ true → b ≡ false
was_false true h = absurd cc
was_false false h = refl

module _ {R : Type 0} (room_of : R → RoomId) (room : RoomId) where
  -- the last of a room is the first where there is one at most
  last_is_found : (rs : List R) → are_once room_of rs ≡ true → last_of (λ r. same_room (room_of r) room) rs ≡ find_room room_of room rs
  last_is_found [] once = refl
  last_is_found (r ∷ rs) once =
      let parts = and_parts (not (list_any (λ s. same_room (room_of s) (room_of r)) rs)) (are_once room_of rs) once in
      by_test (same_room (room_of r) room) refl (was_false _ parts.0) (last_is_found rs parts.1)
    where
      by_test : (b : Bool) → same_room (room_of r) room ≡ b → list_any (λ s. same_room (room_of s) (room_of r)) rs ≡ false → last_of (λ s. same_room (room_of s) room) rs ≡ find_room room_of room rs
          → option_or (last_of (λ s. same_room (room_of s) room) rs) (cond b (Some r) None) ≡ cond b (Some r) (find_room room_of room rs)
      by_test true is none rest =
          let same : room_of r ≡ room = same_is (room_of r) room is in
          ap (λ o. option_or o (Some r)) (last_of-none (λ s. same_room (room_of s) room) rs (ap (λ k. list_any (λ s. same_room (room_of s) k) rs) (sym same) ∙ none))
      by_test false is none rest = option_or-none (last_of (λ s. same_room (room_of s) room) rs) ∙ rest

  found_by_text : (server : List ℕ) (rs : List R) → are_once room_of rs ≡ true → last_of (λ r. bytes_eq (room_id_text server (room_of r)) (room_id_text server room)) rs ≡ find_room room_of room rs
  found_by_text server rs once = (λ i. last_of (λ r. text_test server (room_of r) room i) rs) ∙ last_is_found rs once

pub rooms_are_found : RoomsAreFound
rooms_are_found server device r once room = record {
  joined = ap (option_map (joined_sent server device r.next.e)) (found_by_text (λ (x : JoinedRoom). x.room) room server r.joined once.joined);
  invited = ap (option_map invited_sent) (found_by_text (λ (x : InvitedRoom). x.room) room server r.invited once.invited);
  left = ap (option_map (left_sent server device r.next.e)) (found_by_text (λ (x : LeftRoom). x.room) room server r.left once.left);
}

absent : {R : Type 0} (room_of : R → RoomId) (server text : List ℕ) → ((room : RoomId) → text ≢ room_id_text server room) → (rs : List R) → last_of (λ r. bytes_eq (room_id_text server (room_of r)) text) rs ≡ None
absent room_of server text other rs = (λ i. last_of (λ r. miss (room_id_text server (room_of r)) text (other (room_of r)) i) rs) ∙ none_passes rs

pub others_are_absent : OthersAreAbsent
others_are_absent server device r text other = record {
  joined = ap (option_map (joined_sent server device r.next.e)) (absent (λ (x : JoinedRoom). x.room) server text other r.joined);
  invited = ap (option_map invited_sent) (absent (λ (x : InvitedRoom). x.room) server text other r.invited);
  left = ap (option_map (left_sent server device r.next.e)) (absent (λ (x : LeftRoom). x.room) server text other r.left);
}

-- ---- in the replies to syncs

room_total : IsTotalOrder room_cmp
room_total = then_total (on_total (λ (r : RoomId). r.writer) nat_cmp_total) (on_total (λ (r : RoomId). r.at) nat_cmp_total)

rooms_sorted : (user : List ℕ) (m : List (RoomId × Event)) (es : List Event) → T (is_sorted room_cmp m) → T (is_sorted room_cmp (fold (with_own user) m es))
rooms_sorted user m [] sorted = sorted
rooms_sorted user m (e ∷ es) sorted = rooms_sorted user (with_own user m e) es (by_test (is_own user e))
  where
    by_test : (b : Bool) → T (is_sorted room_cmp (if b then insert_entry room_cmp m e.room e else m))
    by_test true = all_sorted room_cmp room_total (λ (x : Event). x.room) (λ x. x) m (e ∷ []) sorted
    by_test false = sorted

-- a room isn't below itself
not_below : (r s : RoomId) → T (is_lt (room_cmp r s)) → same_room s r ≡ false
not_below r s below = elim (cases_Bool (same_room s r)) [
  | inl same ↦
      let less : room_cmp r r ≡ Less = ap (room_cmp r) (sym (same_is s r same)) ∙ less_is (room_cmp r s) below in
      let clash : Less ≡ Greater = sym less ∙ room_total.antisymm r r ∙ ap ordering_reverse less in
      absurd cc
  | inr other ↦ other
]

none_above : (k : RoomId) (rs : List (RoomId × Event)) → T (below_all room_cmp k rs) → list_any (λ (p : RoomId × Event). same_room p.0 k) rs ≡ false
none_above k [] below = refl
none_above k (p ∷ rs) below = ap₂ (λ a b. a || b) (not_below k p.0 (left (is_lt (room_cmp k p.0)) (below_all room_cmp k rs) below)) (none_above k rs (right (is_lt (room_cmp k p.0)) (below_all room_cmp k rs) below))

-- what is told of rooms in order, each under its own id
module _ {R : Type 0} (kind : RoomReply → Option R) (room_of : R → RoomId) (said : RoomId → RoomReply) (own : (k : RoomId) (r : R) → kind (said k) ≡ Some r → room_of r ≡ k) where
  abbrev told : List (RoomId × Event) → List R
  told rs = filter_map kind (map (λ (p : RoomId × Event). said p.0) rs)

  none_told : (k : RoomId) (rs : List (RoomId × Event)) → list_any (λ (p : RoomId × Event). same_room p.0 k) rs ≡ false → list_any (λ s. same_room (room_of s) k) (told rs) ≡ false
  none_told k [] none = refl
  none_told k (p ∷ rs) none =
      let parts = or_parts (same_room p.0 k) (list_any (λ (q : RoomId × Event). same_room q.0 k) rs) none in
      by_kind (kind (said p.0)) refl parts.0 (none_told k rs parts.1)
    where
      by_kind : (o : Option R) → kind (said p.0) ≡ o → same_room p.0 k ≡ false → list_any (λ s. same_room (room_of s) k) (told rs) ≡ false → list_any (λ s. same_room (room_of s) k) (cons_option o (told rs)) ≡ false
      by_kind None is other rest = rest
      by_kind (Some r) is other rest = ap₂ (λ a b. a || b) (ap (λ j. same_room j k) (own p.0 r is) ∙ other) rest

  told_once : (rs : List (RoomId × Event)) → T (is_sorted room_cmp rs) → are_once room_of (told rs) ≡ true
  told_once [] sorted = refl
  told_once (p ∷ rs) sorted =
      by_kind (kind (said p.0)) refl (none_told p.0 rs (none_above p.0 rs (left (below_all room_cmp p.0 rs) (is_sorted room_cmp rs) sorted))) (told_once rs (right (below_all room_cmp p.0 rs) (is_sorted room_cmp rs) sorted))
    where
      by_kind : (o : Option R) → kind (said p.0) ≡ o → list_any (λ s. same_room (room_of s) p.0) (told rs) ≡ false → are_once room_of (told rs) ≡ true → are_once room_of (cons_option o (told rs)) ≡ true
      by_kind None is none rest = rest
      by_kind (Some r) is none rest = ap₂ (λ a b. not a && b) (ap (λ k. list_any (λ s. same_room (room_of s) k) (told rs)) (own p.0 r is) ∙ none) rest

module _ (l : Lists) (user : List ℕ) (a : SyncAsk) where
  own_joined : (k : RoomId) (r : JoinedRoom) → joined_of (said_of l user a k) ≡ Some r → r.room ≡ k
  own_joined k r is = by_told (told_of l user a k) is
    where
      by_told : (t : Told Event RoomView RoomDelta) → joined_of (said_by l user a k t) ≡ Some r → r.room ≡ k
      by_told Nothing is = absurd cc
      by_told (Anew part view) is = sym (ap (λ (j : JoinedRoom). j.room) (same_Some _ r is))
      by_told (More part delta) is = sym (ap (λ (j : JoinedRoom). j.room) (same_Some _ r is))
      by_told (Invited ids) is = absurd cc
      by_told Left is = absurd cc

  own_invited : (k : RoomId) (r : InvitedRoom) → invited_of (said_of l user a k) ≡ Some r → r.room ≡ k
  own_invited k r is = by_told (told_of l user a k) is
    where
      by_told : (t : Told Event RoomView RoomDelta) → invited_of (said_by l user a k t) ≡ Some r → r.room ≡ k
      by_told Nothing is = absurd cc
      by_told (Anew part view) is = absurd cc
      by_told (More part delta) is = absurd cc
      by_told (Invited ids) is = sym (ap (λ (j : InvitedRoom). j.room) (same_Some _ r is))
      by_told Left is = absurd cc

  own_left : (k : RoomId) (r : LeftRoom) → left_of (said_of l user a k) ≡ Some r → r.room ≡ k
  own_left k r is = by_told (told_of l user a k) is
    where
      by_told : (t : Told Event RoomView RoomDelta) → left_of (said_by l user a k t) ≡ Some r → r.room ≡ k
      by_told Nothing is = absurd cc
      by_told (Anew part view) is = absurd cc
      by_told (More part delta) is = absurd cc
      by_told (Invited ids) is = absurd cc
      by_told Left is = sym (ap (λ (j : LeftRoom). j.room) (same_Some _ r is))

pub replies_have_rooms_once : RepliesHaveRoomsOnce
replies_have_rooms_once l user a =
    let sorted = rooms_sorted user [] l.events tt in
    record {
      joined = told_once joined_of (λ (x : JoinedRoom). x.room) (said_of l user a) (own_joined l user a) (rooms_of user l.events) sorted;
      invited = told_once invited_of (λ (x : InvitedRoom). x.room) (said_of l user a) (own_invited l user a) (rooms_of user l.events) sorted;
      left = told_once left_of (λ (x : LeftRoom). x.room) (said_of l user a) (own_left l user a) (rooms_of user l.events) sorted;
    }
