-- Of a state in order of position, what is kept: under some keys up to a position, and all that comes after it.
use Rattle.std.proofs.Common.{◌≡◌, ℕ, ◌+◌, drop, append_assoc, ◌<◌, ◌≤◌, Bool, true, false, not, cond, nat_lt, nat_le, ◌&&◌, ◌||◌, List, [], ◌∷◌, ◌++◌, map, filter, Option, Some, None, refl, ap, ap₂, sym, subst, ◌∙◌, arith}
use Rattle.std.proofs.lemmas.Bool.{and_from, and_parts, lt-ltb, ltb-true}
use Rattle.std.proofs.lemmas.List.{map-append}
use Rattle.std.proofs.lemmas.List.Folds.{list_any-append}
use Rattle.std.specs.Cmp.Lexicographic.{nat_list_eq_equiv}
use Rattle.std.specs.List.{list_any}
use Rattle.std.specs.Str.{bytes_eq}
use Rattle.mx_window.proofs.Each.{filter-weaker, list_any-map, list_any-same}
use Rattle.mx_window.proofs.Intervals.{Ascends-between, Ascends-filter, Ascends-stand_from}
use Rattle.mx_window.specs.Windows.{Ascends, between, stand_from}
use Rattle.mx_event.specs.Kinds.{has_key, is_of, is_text, member_type}
use Rattle.mx_event.specs.Shown.{position_of}
use Rattle.mx_event.specs.declared.event.Event.{Event}
use Rattle.mx_folding.specs.Parts.{state_list}
use Rattle.mx_lazy.specs.Picks.{HasSenders, names, names_key, picked, picked_as}
use Rattle.mx_lazy.specs.declared.picker.Pick.TheVariants as kind
use Rattle.mx_lazy.specs.declared.picker.Picker.{Picker}
use Rattle.mx_snapshot.specs.Events.{states}
use Rattle.mx_lazy.specs.State.Standing.{stands}
use Rattle.mx_lazy.proofs.State.Standing as standing
use Rattle.mx_view.specs.Rooms.{Key}
use Rattle.mx_parts.specs.Picks.{Covers, NamesAll, hero_pair, is_early_by, is_kept_by, is_sent_by, key_pair, sender_pair}
use Rattle.mx_parts.specs.Readings.{events_of, room_in, sieve}
use Rattle.mx_parts.specs.Under.{is_under}
use Rattle.mx_parts.specs.declared.reading.Reading.{Reading}
use Rattle.mx_parts.specs.declared.under_keys.StateKey.{StateKey}
use Rattle.mx_parts.proofs.Picked.{sent_states}

and_no : (b : Bool) → (b && false) ≡ false
and_no true = refl
and_no false = refl

and_yes : (b : Bool) → (b && true) ≡ b
and_yes true = refl
and_yes false = refl

module _ (kept : Event → Bool) (from : ℕ) where
  abbrev late : Event → Bool
  late e = nat_lt from e.id.at

  abbrev early : Event → Bool
  early e = kept e && not (late e)

  none_early : (low : ℕ) (xs : List Event) → Ascends position_of low xs → from ≤ low → filter early xs ≡ []
  none_early low [] up le = refl
  none_early low (x ∷ xs) up le =
      let here : low < x.id.at = up.0 in
      ap₂ (λ b l. cond b (x ∷ l) l) (ap (λ b. kept x && not b) (lt-ltb from x.id.at (omega (arith, here, le))) ∙ and_no (kept x)) (none_early x.id.at xs up.1 (omega (arith, here, le)))

  all_late : (low : ℕ) (xs : List Event) → Ascends position_of low xs → from ≤ low → filter late xs ≡ xs
  all_late low [] up le = refl
  all_late low (x ∷ xs) up le =
      let here : low < x.id.at = up.0 in
      ap₂ (λ b l. cond b (x ∷ l) l) (lt-ltb from x.id.at (omega (arith, here, le))) (all_late x.id.at xs up.1 (omega (arith, here, le)))

  -- what is kept of a list in order, up to a position and after it
  halves : (low : ℕ) (xs : List Event) → Ascends position_of low xs → filter kept xs ≡ filter early xs ++ filter kept (filter late xs)
  halves low [] up = refl
  halves low (x ∷ xs) up = by_late (late x) refl (halves x.id.at xs up.1)
    where
      by_kept : (k : Bool) → filter kept xs ≡ filter early xs ++ filter kept (filter late xs)
          → cond k (x ∷ filter kept xs) (filter kept xs) ≡ cond (k && true) (x ∷ filter early xs) (filter early xs) ++ filter kept (filter late xs)
      by_kept true rest = ap (λ l. x ∷ l) rest
      by_kept false rest = rest

      by_late : (b : Bool) → late x ≡ b → filter kept xs ≡ filter early xs ++ filter kept (filter late xs)
          → filter kept (x ∷ xs) ≡ cond (kept x && not b) (x ∷ filter early xs) (filter early xs) ++ filter kept (cond b (x ∷ filter late xs) (filter late xs))
      by_late false is rest = by_kept (kept x) rest
      by_late true is rest =
          let above : from < x.id.at = ltb-true from x.id.at is in
          let le : from ≤ x.id.at = omega (arith, above) in
          sym (ap₂ (λ b l. cond b (x ∷ l) l ++ filter kept (x ∷ filter late xs)) (and_no (kept x)) (none_early x.id.at xs up.1 le)
          ∙ ap (λ l. filter kept (x ∷ l)) (all_late x.id.at xs up.1 le))

state_up : (v : Reading) → stand_from position_of 1 v.events.now ≡ true → (q : ℕ) → Ascends position_of 0 (state_list (room_in v) (events_of v) q)
state_up v placed q =
    subst (Ascends position_of 0) (standing.state_is (sieve v) v.user.now v.room.now q v.events.now placed)
    (Ascends-filter position_of 0 (stands (events_of v) q) (between position_of 0 q (states v.room.now v.events.now))
    (Ascends-between position_of 0 0 q (states v.room.now v.events.now) (Ascends-filter position_of 0 _ v.events.now (Ascends-stand_from position_of 0 1 v.events.now (omega arith) placed))))

early_is : (v : Reading) (p : Picker) (from : ℕ) (keys : List StateKey) → Covers v p from keys → (xs : List Event)
    → filter (is_early_by v p from) (filter (is_under keys) xs) ≡ filter (λ e. is_kept_by v p e && not (nat_lt from e.id.at)) xs
unfolding is_early_by
early_is v p from keys covers xs = filter-weaker (λ e. is_kept_by v p e && not (nat_lt from e.id.at)) (is_under keys) one xs
  where
    not_late : (b : Bool) → not b ≡ true → b ≡ false
    not_late true h = absurd cc
    not_late false h = refl

    one : (e : Event) → (is_kept_by v p e && not (nat_lt from e.id.at)) ≡ true → is_under keys e ≡ true
    one e h = let parts = and_parts (is_kept_by v p e) (not (nat_lt from e.id.at)) h in covers e (not_late (nat_lt from e.id.at) parts.1) parts.0

-- the state under the keys up to the position, and all that is sent after it
pub parted_is : (v : Reading) (p : Picker) (from q : ℕ) (keys : List StateKey) → stand_from position_of 1 v.events.now ≡ true → Covers v p from keys
    → filter (is_early_by v p from) (filter (is_under keys) (state_list (room_in v) (events_of v) q)) ++ filter (is_sent_by v p q) (between position_of from q (states v.room.now v.events.now))
    ≡ filter (is_kept_by v p) (state_list (room_in v) (events_of v) q)
parted_is v p from q keys placed covers =
    ap₂ (λ l m. l ++ m) (early_is v p from keys covers (state_list (room_in v) (events_of v) q)) (sent_states v p placed false (kind.Later from from from true true) q from refl)
    ∙ sym (halves (is_kept_by v p) from 0 (state_list (room_in v) (events_of v) q) (state_up v placed q))

-- ---- who is named

out_of : (l m n x late : Bool) → late ≡ false → (late || (l && (m && (n && x)))) ≡ true → (m && n) ≡ true
out_of l m n x true early h = absurd cc
out_of l m n x false early h =
    let a = and_parts l (m && (n && x)) h in
    let b = and_parts m (n && x) a.1 in
    let c = and_parts n x b.1 in
    and_from m n b.0 c.0

-- what is kept of a later part up to its position is of someone who is named
pub covers_named : (v : Reading) (p : Picker) (from since base : ℕ) (redundant stays : Bool) (keys : List StateKey) → p.pick ≡ kind.Later from since base redundant stays
    → NamesAll p keys → Covers v p from keys
unfolding is_kept_by
covers_named v p from since base redundant stays keys is named e early kept =
    named e
    (out_of p.lazy (is_of member_type e) (names p e) (redundant || (nat_lt since e.id.at || (not stays || nat_le e.id.at base))) (nat_lt from e.id.at) early
    (sym (ap (λ k. picked_as k p e) is) ∙ (and_parts (picked p e) ((sieve v).keeps e) kept).0))

-- the keys of the senders and of the heroes are those of all who are named
pub names_all : (p : Picker) (sent : List Event) (keys : List StateKey) → HasSenders p.senders sent
    → map key_pair keys ≡ map sender_pair sent ++ map hero_pair p.heroes.now → NamesAll p keys
names_all p sent keys senders pairs e h = by_key e.state_key refl parts.1
  where
    parts : (is_of member_type e ≡ true) × (names p e ≡ true)
    parts = and_parts (is_of member_type e) (names p e) h

    by_key : (o : Option (List ℕ)) → e.state_key ≡ o → names_key p o ≡ true → is_under keys e ≡ true
    by_key None is n = absurd cc
    by_key (Some key) is n =
        sym (list_any-map (λ (k : Key). has_key k.0 k.1 e) key_pair keys) ∙ ap (list_any (λ (k : Key). has_key k.0 k.1 e)) pairs ∙ list_any-append (λ (k : Key). has_key k.0 k.1 e) (map sender_pair sent) (map hero_pair p.heroes.now)
        ∙ ap₂ (λ a b. a || b)
        (list_any-map (λ (k : Key). has_key k.0 k.1 e) sender_pair sent ∙ list_any-same (λ (d : Event). has_key member_type d.sender e) (λ (d : Event). bytes_eq d.sender key) (λ d. has_is d.sender) sent ∙ sym (senders key))
        (list_any-map (λ (k : Key). has_key k.0 k.1 e) hero_pair p.heroes.now ∙ list_any-same (λ (t : List ℕ). has_key member_type t e) (λ (t : List ℕ). bytes_eq t key) has_is p.heroes.now)
        ∙ n
      where
        has_is : (t : List ℕ) → has_key member_type t e ≡ bytes_eq t key
        has_is t = ap₂ (λ a b. a && b) parts.0 (ap (is_text t) is ∙ nat_list_eq_equiv.symm key t)

-- one key more is pushed
pub key_pushed : {Y : Type 0} (g : Y → Key) (all : List Y → List Key) → ((y : Y) (ys : List Y) → all (y ∷ ys) ≡ g y ∷ all ys) → (made new : List StateKey) (k : StateKey) (ys : List Y) (i : ℕ) (y : Y)
    (whole : List Key) → drop i ys ≡ y ∷ drop (i + 1) ys → new ≡ made ++ k ∷ [] → key_pair k ≡ g y → map key_pair made ++ all (drop i ys) ≡ whole
    → map key_pair new ++ all (drop (i + 1) ys) ≡ whole
key_pushed g all heads made new k ys i y whole next is same before =
    ap (λ l. map key_pair l ++ all (drop (i + 1) ys)) is ∙ ap (λ l. l ++ all (drop (i + 1) ys)) (map-append key_pair made (k ∷ []))
    ∙ append_assoc (map key_pair made) (key_pair k ∷ []) (all (drop (i + 1) ys))
    ∙ ap (λ j. map key_pair made ++ j ∷ all (drop (i + 1) ys)) same
    ∙ ap (λ l. map key_pair made ++ l) (sym (ap all next ∙ heads y (drop (i + 1) ys))) ∙ before
