-- What is said of the rooms of a set that has all of which something is said is what is said of the user's rooms.
use Rattle.std.proofs.Common.{◌≡◌, ℕ, Bool, true, false, cond, T, ◌&&◌, List, [], ◌∷◌, map, filter_map, filter, fold, Option, Some, None, Less, is_lt, is_eq, if◌then◌else◌, refl, ap, sym, ◌∙◌, inl, inr}
use Rattle.std.proofs.lemmas.Bool.{cases_Bool}
use Rattle.std.proofs.lemmas.Cmp.{nat_cmp_total, on_total, then_total}
use Rattle.std.proofs.lemmas.List.Kept.{IsStrictlySortedBy-filter}
use Rattle.std.proofs.lemmas.Map.Lookups.{CmpEqualImpliesEq, btree_set_from_contains}
use Rattle.std.proofs.lemmas.Map.Views.{any-filter_same}
use Rattle.std.specs.BTreeMap.{insert_entry}
use Rattle.std.specs.BTreeSet as set
use Rattle.std.specs.BTreeSet.{BTreeSet}
use Rattle.std.specs.Cmp.{IsTotalOrder}
use Rattle.std.specs.FinMap.Entries.{below_all, is_sorted}
use Rattle.std.specs.List.{AllByRecursion, cons_option, list_any}
use Rattle.std.specs.List.Sorted.{IsStrictlySortedBy}
use Rattle.std.specs.Option.{is_some}
use Rattle.mx_ids.specs.declared.room_id.RoomId.{RoomId}
use Rattle.mx_window.proofs.Each.{list_any-map, list_any-same, map-map}
use Rattle.mx_event.specs.Lawful.{same_room}
use Rattle.mx_event.specs.declared.event.Event.{Event}
use Rattle.mx_event.proofs.Lawfully.{same_is}
use Rattle.mx_fold.proofs.Latest.{all_sorted, equal_is, left, less_is, right}
use Rattle.mx_fold.specs.Lists.{Lists}
use Rattle.mx_fold.specs.Replies.{SyncAsk}
use Rattle.mx_snapshot.specs.Events.{is_own, rooms_of, with_own}
use Rattle.mx_snapshot.specs.Lists.{room_cmp}
use Rattle.mx_sync.specs.Candidates.{HasAllSaid}
use Rattle.mx_sync.specs.Quiet.{has_room}
use Rattle.mx_sync.specs.Replies.{all_said, said_of}
use Rattle.mx_sync.specs.declared.room_reply.RoomReply.{RoomReply}
use Rattle.mx_sync.specs.declared.room_reply.RoomReply.TheVariants as answer
use Rattle.mx_sync.proofs.Filters.{same_by}
use Rattle.mx_sync.proofs.Listed.{is_at}
use Rattle.mx_sync.proofs.Unsaid.{own_are_all}
use Rattle.mx_event.specs.Shown.{position_of}
use Rattle.mx_window.specs.Windows.{stand_from}

room_total : IsTotalOrder room_cmp
room_total = then_total (on_total (λ (r : RoomId). r.writer) nat_cmp_total) (on_total (λ (r : RoomId). r.at) nat_cmp_total)

room_exact : CmpEqualImpliesEq room_cmp
room_exact r s tied = same_is r s (sym (same_by r s) ∙ ap is_eq tied)

-- ---- the rooms of a user are in order

rooms_sorted : (user : List ℕ) (m : List (RoomId × Event)) (es : List Event) → T (is_sorted room_cmp m) → T (is_sorted room_cmp (fold (with_own user) m es))
rooms_sorted user m [] sorted = sorted
rooms_sorted user m (e ∷ es) sorted = rooms_sorted user (with_own user m e) es (by_test (is_own user e))
  where
    by_test : (b : Bool) → T (is_sorted room_cmp (if b then insert_entry room_cmp m e.room e else m))
    by_test true = all_sorted room_cmp room_total (λ (x : Event). x.room) (λ x. x) m (e ∷ []) sorted
    by_test false = sorted

abbrev room_in : RoomId × Event → RoomId
room_in p = p.0

below_keys : (k : RoomId) (rs : List (RoomId × Event)) → T (below_all room_cmp k rs) → AllByRecursion (λ r. room_cmp k r ≡ Less) (map room_in rs)
below_keys k [] h = tt
below_keys k (p ∷ rs) h =
    (less_is (room_cmp k p.0) (left (is_lt (room_cmp k p.0)) (below_all room_cmp k rs) h), below_keys k rs (right (is_lt (room_cmp k p.0)) (below_all room_cmp k rs) h))

keys_sorted : (rs : List (RoomId × Event)) → T (is_sorted room_cmp rs) → IsStrictlySortedBy room_cmp (map room_in rs)
unfolding IsStrictlySortedBy
keys_sorted [] h = tt
keys_sorted (p ∷ rs) h =
    (below_keys p.0 rs (left (below_all room_cmp p.0 rs) (is_sorted room_cmp rs) h), keys_sorted rs (right (below_all room_cmp p.0 rs) (is_sorted room_cmp rs) h))

-- ---- two sets that have all rooms of which something is said

module _ {R : Type 0} (kind : RoomReply → Option R) (blank : kind answer.Nothing ≡ None) (said : RoomId → RoomReply) where
  abbrev has_some : RoomId → Bool
  has_some r = is_some (kind (said r))

  -- what nothing is said of can be left out
  without : (rs : List RoomId) → filter_map kind (map said rs) ≡ filter_map kind (map said (filter has_some rs))
  without [] = refl
  without (r ∷ rs) = by_kind (kind (said r)) refl (without rs)
    where
      by_kind : (o : Option R) → kind (said r) ≡ o → filter_map kind (map said rs) ≡ filter_map kind (map said (filter has_some rs))
          → cons_option o (filter_map kind (map said rs)) ≡ filter_map kind (map said (cond (is_some o) (r ∷ filter has_some rs) (filter has_some rs)))
      by_kind None is rest = rest
      by_kind (Some x) is rest = ap (λ l. x ∷ l) rest ∙ sym (ap (λ o. cons_option o (filter_map kind (map said (filter has_some rs)))) is)

  -- a set without them
  abbrev telling : List RoomId → BTreeSet RoomId
  telling rs = record { keys = filter has_some rs }

  there : (rs : List RoomId) (q : RoomId) → set.contains room_cmp (telling rs) q ≡ (has_some q && list_any (λ r. is_eq (room_cmp q r)) rs)
  there rs q = any-filter_same (λ r. is_eq (room_cmp q r)) has_some (has_some q) (λ r tied. ap has_some (sym (room_exact q r (equal_is (room_cmp q r) tied)))) rs

  -- of a room that isn't there nothing is said
  only_there : (zs : List RoomId) → ((r : RoomId) → list_any (λ s. is_eq (room_cmp r s)) zs ≡ false → said r ≡ answer.Nothing) → (q : RoomId)
      → (has_some q && list_any (λ s. is_eq (room_cmp q s)) zs) ≡ has_some q
  only_there zs all q = by_test (list_any (λ s. is_eq (room_cmp q s)) zs) refl
    where
      by_test : (b : Bool) → list_any (λ s. is_eq (room_cmp q s)) zs ≡ b → (has_some q && b) ≡ has_some q
      by_test true is = elim (cases_Bool (has_some q)) [
        | inl some ↦ ap (λ a. a && true) some ∙ sym some
        | inr none ↦ ap (λ a. a && true) none ∙ sym none
      ]
      by_test false is =
          let none : has_some q ≡ false = ap is_some (ap kind (all q is) ∙ blank) in
          ap (λ a. a && false) none ∙ sym none

  module _ (xs ys : List RoomId) (all_xs : (r : RoomId) → list_any (λ s. is_eq (room_cmp r s)) xs ≡ false → said r ≡ answer.Nothing)
      (all_ys : (r : RoomId) → list_any (λ s. is_eq (room_cmp r s)) ys ≡ false → said r ≡ answer.Nothing) where
    same_kept : IsStrictlySortedBy room_cmp xs → IsStrictlySortedBy room_cmp ys → filter has_some xs ≡ filter has_some ys
    same_kept x_sorted y_sorted =
        btree_set_from_contains room_total (telling xs) (telling ys) (IsStrictlySortedBy-filter room_cmp has_some xs x_sorted)
        (IsStrictlySortedBy-filter room_cmp has_some ys y_sorted)
        (λ q. there xs q ∙ only_there xs all_xs q ∙ sym (there ys q ∙ only_there ys all_ys q)) room_exact

    same_said : IsStrictlySortedBy room_cmp xs → IsStrictlySortedBy room_cmp ys → filter_map kind (map said xs) ≡ filter_map kind (map said ys)
    same_said x_sorted y_sorted =
        without xs ∙ ap (λ rs. filter_map kind (map said rs)) (same_kept x_sorted y_sorted) ∙ sym (without ys)

-- the user's rooms as a set
abbrev own_set : List ℕ → List Event → BTreeSet RoomId
own_set user es = record { keys = map room_in (rooms_of user es) }

own_has : (user : List ℕ) (es : List Event) (r : RoomId) → has_room (own_set user es) r ≡ list_any (is_at r) (rooms_of user es)
own_has user es r =
    list_any-map (λ (s : RoomId). is_eq (room_cmp r s)) room_in (rooms_of user es)
    ∙ list_any-same (λ (p : RoomId × Event). is_eq (room_cmp r p.0)) (is_at r) (λ p. same_by r p.0 ∙ flipped r p.0) (rooms_of user es)
  where
    flipped : (r s : RoomId) → same_room r s ≡ same_room s r
    flipped r s = elim (cases_Bool (same_room r s)) [
      | inl same ↦ ap (λ (q : RoomId). same_room r q) (sym (same_is r s same)) ∙ ap (λ (q : RoomId). same_room q r) (same_is r s same)
      | inr other ↦ elim (cases_Bool (same_room s r)) [
        | inl same ↦ ap (λ (q : RoomId). same_room r q) (same_is s r same) ∙ ap (λ (q : RoomId). same_room q r) (sym (same_is s r same))
        | inr too ↦ other ∙ sym too
      ]
    ]

pub walked_is : {R : Type 0} (kind : RoomReply → Option R) → kind answer.Nothing ≡ None → (l : Lists) (user : List ℕ) (a : SyncAsk)
    → stand_from position_of 1 l.events ≡ true → (rooms : BTreeSet RoomId) → set.IsOrdered room_cmp rooms → HasAllSaid rooms l user a
    → filter_map kind (map (said_of l user a) rooms.keys) ≡ filter_map kind (all_said l user a (rooms_of user l.events))
walked_is kind blank l user a placed rooms ordered all =
    same_said kind blank (said_of l user a) rooms.keys (map room_in (rooms_of user l.events)) all
    (own_are_all l user a placed (own_set user l.events) (own_has user l.events))
    ordered (keys_sorted (rooms_of user l.events) (rooms_sorted user [] l.events tt))
    ∙ ap (filter_map kind) (map-map (said_of l user a) room_in (rooms_of user l.events))
