-- A cache of tallies.
use Rattle.std.proofs.Common.{◌≡◌, ℕ, zero, suc, ◌-◌, Bool, true, false, cond, ◌&&◌, List, [], ◌∷◌, take, Option, Some, None, Result, Ok, Err, OnOk, OnErr, refl, sym, ap₂, subst}
use Rattle.std.proofs.lemmas.Bool.{and_parts}
use Rattle.std.proofs.lemmas.Slice.Eq.{bytes_eq-Decides}
use Rattle.std.proofs.lemmas.Option.{none-some, same_Some}
use Rattle.std.specs.List.{AllByRecursion}
use Rattle.std.specs.Map.{lookup, lookup_entry, remove_entry, set_value}
use Rattle.std.specs.Option.{option_map_or}
use Rattle.std.specs.Str.{bytes_eq}
use Rattle.lru.specs.LruCache.{LruCache, lru_cache, promoted, put_entries}
use Rattle.mx_snapshot.specs.declared.snapshot.Snapshot.{Snapshot}
use Rattle.mx_unread.specs.Cached.{AreKeyed, AreStanding, IsStanding, TallyEntry, tallies_of}
use Rattle.mx_event.specs.Lawful.{same_room}
use Rattle.mx_unread.specs.Kept.{IsOf, StandAll, StandsWithin}
use Rattle.mx_unread.specs.Unread.{counts_at}
use Rattle.mx_unread.proofs.Tallying.{room_same}
use Rattle.mx_unread.specs.declared.tally_key.TallyKey.{TallyKey}
use Rattle.mx_unread.specs.declared.running.Tally.{Tally}
use Rattle.mx_ids.specs.declared.room_id.RoomId.{RoomId}
use Rattle.mx_ids.specs.declared.sync_token.SyncToken.{SyncToken}

-- ---- entries that all pass

module _ {K V : Type 0} (P : K × V → Type 0) where
  pub taken : (n : ℕ) (es : List (K × V)) → AllByRecursion P es → AllByRecursion P (take n es)
  taken zero es all = tt
  taken (suc n) [] all = tt
  taken (suc n) (e ∷ es) all = (all.0, taken n es all.1)

  module _ (test : K → Bool) where
    removed : (es : List (K × V)) → AllByRecursion P es → AllByRecursion P (remove_entry test es)
    removed [] all = tt
    removed (e ∷ es) all = by_test (test e.0) (removed es all.1) where
      by_test : (b : Bool) → AllByRecursion P (remove_entry test es) → AllByRecursion P (cond b es (e ∷ remove_entry test es))
      by_test true rest = all.1
      by_test false rest = (all.0, rest)

    found : (es : List (K × V)) (e : K × V) → lookup_entry test es ≡ Some e → AllByRecursion P es → (test e.0 ≡ true) × P e
    found [] e is all = absurd (none-some e is)
    found (f ∷ es) e is all = by_test (test f.0) refl (found es e) is where
      by_test : (b : Bool) → test f.0 ≡ b → (lookup_entry test es ≡ Some e → AllByRecursion P es → (test e.0 ≡ true) × P e) → cond b (Some f) (lookup_entry test es) ≡ Some e
          → (test e.0 ≡ true) × P e
      by_test true passes rest here = let same : f ≡ e = same_Some f e here in (subst (λ (g : K × V). test g.0 ≡ true) same passes, subst P same all.0)
      by_test false passes rest later = rest later all.1

    -- what a look-up finds
    pub looked : (es : List (K × V)) (v : V) → lookup test es ≡ Some v → AllByRecursion P es → (k : K) × (test k ≡ true) × P (k, v)
    looked [] v is all = absurd (none-some v is)
    looked (f ∷ es) v is all = by_test (test f.0) refl (looked es v) is where
      by_test : (b : Bool) → test f.0 ≡ b → (lookup test es ≡ Some v → AllByRecursion P es → (k : K) × (test k ≡ true) × P (k, v)) → cond b (Some f.1) (lookup test es) ≡ Some v
          → (k : K) × (test k ≡ true) × P (k, v)
      by_test true passes rest here = (f.0, passes, subst (λ (w : V). P (f.0, w)) (same_Some f.1 v here) all.0)
      by_test false passes rest later = rest later all.1

    -- the one that was found goes first
    pub first : (es : List (K × V)) → AllByRecursion P es → AllByRecursion P (promoted test es)
    first es all = by_found (lookup_entry test es) refl where
      by_found : (o : Option (K × V)) → lookup_entry test es ≡ o → AllByRecursion P (option_map_or (λ e. e ∷ remove_entry test es) o es)
      by_found None is = all
      by_found (Some e) is = ((found es e is all).1, removed es all)

    -- its value is set
    pub written : (es : List (K × V)) (w : V) → ((k : K) (v : V) → test k ≡ true → P (k, v) → P (k, w)) → AllByRecursion P es → AllByRecursion P (set_value test es w)
    written [] w fits all = tt
    written (e ∷ es) w fits all = by_test (test e.0) refl (written es w fits all.1) where
      by_test : (b : Bool) → test e.0 ≡ b → AllByRecursion P (set_value test es w) → AllByRecursion P (cond b ((e.0, w) ∷ es) (e ∷ set_value test es w))
      by_test true passes rest = (fits e.0 e.1 passes all.0, all.1)
      by_test false passes rest = (all.0, rest)

  -- a value is put under a key
  pub put : (eq : K → K → Bool) (c : LruCache K V) (k : K) (w : V) → ((j : K) (v : V) → eq k j ≡ true → P (j, v) → P (j, w)) → P (k, w) → AllByRecursion P c.entries
      → AllByRecursion P (put_entries eq c k w)
  put eq c k w fits one all = by_found (lookup_entry (eq k) c.entries) refl where
    by_found : (o : Option (K × V)) → lookup_entry (eq k) c.entries ≡ o
        → AllByRecursion P (option_map_or (λ e. (e.0, w) ∷ remove_entry (eq k) c.entries) o ((k, w) ∷ take (c.cap - 1) c.entries))
    by_found None is = (one, taken (c.cap - 1) c.entries all)
    by_found (Some e) is = let here = found (eq k) c.entries e is all in (fits e.0 e.1 here.0 here.1, removed (eq k) c.entries all)

-- ---- tallies that stand

abbrev same_key : TallyKey → TallyKey → Bool
same_key k j = same_room k.room j.room && bytes_eq k.user j.user

key_same : (k j : TallyKey) → same_key k j ≡ true → k ≡ j
key_same k j same =
    let parts = and_parts (same_room k.room j.room) (bytes_eq k.user j.user) same in
    let room : k.room ≡ j.room = room_same k.room j.room parts.0 in
    let user : k.user ≡ j.user = (bytes_eq-Decides k.user j.user).0 parts.1 in
    λ i. record { room = room i; user = user i }

module _ (s : Snapshot) where
  pub keyed_both : (es : List TallyEntry) → AreKeyed es → StandAll s (tallies_of es) → AreStanding s es
  keyed_both [] keyed all = tt
  keyed_both (e ∷ es) keyed all = ((keyed.0, all.0), keyed_both es keyed.1 all.1)

  -- which tally is found under a key
  pub found_under : (k : TallyKey) (es : List TallyEntry) (t : Tally) → Some t ≡ lookup (same_key k) es → AreStanding s es → IsOf t k.room k.user × StandsWithin s t
  found_under k es t is all =
      let found = looked (IsStanding s) (same_key k) es t (sym is) all in
      (subst (λ (j : TallyKey). IsOf t j.room j.user) (sym (key_same k found.0 found.1)) found.2.0, found.2.1)

  -- a tally fits under each key that is the same
  fits_under : (k : TallyKey) (t : Tally) → IsOf t k.room k.user → StandsWithin s t → (j : TallyKey) (u : Tally) → same_key k j ≡ true → IsStanding s (j, u) → IsStanding s (j, t)
  fits_under k t of' stands j u same was = (subst (λ (i : TallyKey). IsOf t i.room i.user) (key_same k j same) of', stands)

  -- after the one that was found goes first, and goes on
  pub gone_on : (k : TallyKey) (es : List TallyEntry) (t : Tally) → IsOf t k.room k.user → StandsWithin s t → AreStanding s es → AreStanding s (set_value (same_key k) (promoted (same_key k) es) t)
  gone_on k es t of' stands all =
      written (IsStanding s) (same_key k) (promoted (same_key k) es) t (fits_under k t of' stands) (first (IsStanding s) (same_key k) es all)

  -- after one is put, if there is memory
  pub kept : {A E : Type 0} (r : Result A E) (c new : LruCache TallyKey Tally) (k : TallyKey) (t : Tally) → OnOk r (new ≡ lru_cache (put_entries same_key c k t) c.cap) → OnErr r (new ≡ c)
      → IsOf t k.room k.user → AreStanding s c.entries → StandsWithin s t → AreStanding s new.entries
  kept (Ok x) c new k t is same of' all stands =
      subst (λ (d : LruCache TallyKey Tally). AreStanding s d.entries) (sym is) (put (IsStanding s) same_key c k t (fits_under k t of' stands) (of', stands) all)
  kept (Err x) c new k t is same of' all stands = subst (λ (d : LruCache TallyKey Tally). AreStanding s d.entries) (sym same) all

  pub keyed_keys : (es : List TallyEntry) → AreStanding s es → AreKeyed es
  keyed_keys [] both = tt
  keyed_keys (e ∷ es) both = (both.0.0, keyed_keys es both.1)

  pub keyed_stand : (es : List TallyEntry) → AreStanding s es → StandAll s (tallies_of es)
  keyed_stand [] both = tt
  keyed_stand (e ∷ es) both = (both.0.1, keyed_stand es both.1)

pub counts_of : (s : Snapshot) (t : Tally) (room : RoomId) (user : List ℕ) (at : SyncToken) → IsOf t room user → counts_at t.room t.user s.events s.receipts s.accounts at ≡ counts_at room user s.events s.receipts s.accounts at
counts_of s t room user at of' = ap₂ (λ (r : RoomId) (u : List ℕ). counts_at r u s.events s.receipts s.accounts at) of'.room_is of'.user_is
