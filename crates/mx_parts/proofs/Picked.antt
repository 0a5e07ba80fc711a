-- What is kept of a room's state is what a reply sends of it.
use Rattle.std.proofs.Common.{◌≡◌, ℕ, ◌+◌, ◌++◌, drop, append_assoc, Bool, true, false, not, cond, nat_lt, nat_le, ◌&&◌, ◌||◌, List, [], ◌∷◌, Option, Some, None, option_map, filter, is_some, refl, ap, ap₂, subst, sym, ◌∙◌}
use Rattle.std.proofs.lemmas.List.Elements.{filter-append}
use Rattle.std.specs.Borrow.{Bor}
use Rattle.std.proofs.lemmas.Bool.{or_parts}
use Rattle.std.specs.List.{list_any}
use Rattle.std.specs.Str.{bytes_eq}
use Rattle.mx_window.specs.Lasts.{current}
use Rattle.mx_window.specs.Windows.{between}
use Rattle.mx_window.proofs.Each.{filter-same, filter-swap, AllByRecursion-every, AllByRecursion-passed, AllByRecursion-weaker}
use Rattle.mx_event.specs.Kinds.{is_of, member_type}
use Rattle.mx_event.specs.Shown.{position_of}
use Rattle.mx_event.specs.declared.event.Event.{Event}
use Rattle.mx_folding.specs.Parts.{is_cons, state_list, state_part}
use Rattle.mx_folding.specs.Rooms.{Room, is_kept, is_state, sets_same}
use Rattle.mx_view.specs.Rooms.{Key, Sieve, key_of, room_of}
use Rattle.mx_lazy.specs.Picks.{HasSenders, IsStayed, is_hero, names, names_key, picked, picked_as, pick_of}
use Rattle.mx_lazy.specs.declared.picker.Pick.{Pick}
use Rattle.mx_lazy.specs.declared.picker.Pick.TheVariants as kind
use Rattle.mx_lazy.specs.declared.picker.Picker.{Picker}
use Rattle.mx_lazy.proofs.Picking.{picks_same}
use Rattle.mx_snapshot.specs.Events.{states}
use Rattle.mx_lazy.specs.State.Standing.{standing_in, stands}
use Rattle.mx_lazy.proofs.State.Standing as standing
use Rattle.mx_lazy.proofs.State.Standing.{standing_is}
use Rattle.mx_window.specs.Windows.{stand_from}
use Rattle.mx_parts.specs.Picks.{is_kept_by, is_sent_by, start_by, states_by}
use Rattle.mx_parts.specs.Readings.{events_of, room_in, sieve}
use Rattle.mx_parts.specs.Sections as part
use Rattle.mx_parts.specs.declared.reading.Reading.{Reading}
use Rattle.mx_parts.specs.declared.window.Window.{Window}
use Rattle.mx_snapshot.specs.Looks.{all_now}

twice : (p q : Event → Bool) (es : List Event) → filter p (filter q es) ≡ filter (λ e. q e && p e) es
twice p q [] = refl
twice p q (e ∷ es) = by_test (q e) (twice p q es) where
  by_test : (b : Bool) → filter p (filter q es) ≡ filter (λ d. q d && p d) es
      → filter p (cond b (e ∷ filter q es) (filter q es)) ≡ cond (b && p e) (e ∷ filter (λ d. q d && p d) es) (filter (λ d. q d && p d) es)
  by_test true h = ap (λ l. cond (p e) (e ∷ l) l) h
  by_test false h = h

and_false : (a : Bool) → (a && false) ≡ false
and_false true = refl
and_false false = refl

or_false : (a : Bool) → (a || false) ≡ a
or_false true = refl
or_false false = refl

-- what implies a test needn't be asked after it
implied : (k a : Bool) → (a && (k && a)) ≡ (k && a)
implied k true = refl
implied k false = sym (and_false k)

unnamed : (l m n x : Bool) → (l && n) ≡ false → (l && (m && (n && x))) ≡ false
unnamed false m n x h = refl
unnamed true m true x h = absurd (cc (h))
unnamed true m false x h = and_false m

is_empty : {A : Type 0} (xs : List A) → is_cons xs ≡ false → xs ≡ []
is_empty [] h = refl
is_empty (x ∷ xs) h = absurd (cc (h))

-- without senders and heroes nobody is named
nobody : (p : Picker) (sent : List Event) → HasSenders p.senders sent → (p.lazy && (is_cons sent || is_cons p.heroes.now)) ≡ false
    → (e : Event) (o : Option (List ℕ)) → (p.lazy && names_key p o) ≡ false
nobody p sent senders none e o = by p.lazy none o where
  by : (l : Bool) → (l && (is_cons sent || is_cons p.heroes.now)) ≡ false → (o : Option (List ℕ)) → (l && names_key p o) ≡ false
  by false h o = refl
  by true h None = refl
  by true h (Some key) =
      let parts = or_parts (is_cons sent) (is_cons p.heroes.now) h in
      ap₂ (λ a b. a || b) (senders key ∙ ap (λ (l : List Event). list_any (λ (d : Event). bytes_eq d.sender key) l) (is_empty sent parts.0))
      (ap (λ (l : List (List ℕ)). is_hero l key) (is_empty p.heroes.now parts.1))

keyed : (e : Event) → is_some (key_of e) ≡ true → is_some e.state_key ≡ true
keyed e h = at e.state_key h where
  at : (o : Option (List ℕ)) → is_some {T = Key} (option_map (λ (key : List ℕ). (e.kind, key)) o) ≡ true → is_some o ≡ true
  at None k = k
  at (Some key) k = refl

module _ (f : Sieve) (es sent : List Event) (p : Picker) (lazy : p.lazy ≡ f.lazy) (senders : HasSenders p.senders sent) (stayed : IsStayed p.user.now es p.pick) (q : ℕ) where
  abbrev r : Room Event Key
  r = room_of f p.user.now es

  abbrev kept : Event → Bool
  kept e = f.keeps e && picked p e

  abbrev pick : Event → Bool
  pick e = pick_of r p.heroes.now p.pick sent e

  whole : filter kept (state_list r es q) ≡ state_part r es pick q
  whole =
      filter-same kept (λ e. is_kept r e && pick e) (state_list r es q)
      (AllByRecursion-weaker (λ e. is_state r e ≡ true) (λ e. kept e ≡ (is_kept r e && pick e))
      (λ e is. ap₂ (λ a b. a && b) (sym (ap (λ s. s && f.keeps e) is)) (picks_same f es sent p lazy senders stayed e (keyed e is)))
      (state_list r es q) (AllByRecursion-passed (is_state r) (current (sets_same r) (between position_of 0 q es))))
      ∙ sym (twice pick (is_kept r) (state_list r es q))

  -- where nobody is named only what lies after the position is picked
  later : (from since base : ℕ) (redundant stays : Bool) → p.pick ≡ kind.Later from since base redundant stays → ((e : Event) → (p.lazy && names p e) ≡ false) → (xs : List Event)
      → filter kept (filter (λ (e : Event). nat_lt from e.id.at) xs) ≡ filter kept xs
  later from since base redundant stays is none xs =
      twice kept (λ (e : Event). nat_lt from e.id.at) xs
      ∙ filter-same (λ (e : Event). nat_lt from e.id.at && kept e) kept xs
      (AllByRecursion-every (λ (e : Event). (nat_lt from e.id.at && kept e) ≡ kept e) one xs) where
        after : (e : Event) → picked p e ≡ nat_lt from e.id.at
        after e =
            ap (λ k. picked_as k p e) is
            ∙ ap (λ b. nat_lt from e.id.at || b) (unnamed p.lazy (is_of member_type e) (names p e) (redundant || (nat_lt since e.id.at || (not stays || nat_le e.id.at base))) (none e))
            ∙ or_false (nat_lt from e.id.at)

        one : (e : Event) → (nat_lt from e.id.at && kept e) ≡ kept e
        one e =
            ap (λ b. nat_lt from e.id.at && (f.keeps e && b)) (after e)
            ∙ implied (f.keeps e) (nat_lt from e.id.at) ∙ ap (λ b. f.keeps e && b) (sym (after e))

  pub states_kept : (some : Bool) → some ≡ (p.lazy && (is_cons sent || is_cons p.heroes.now)) → (states : List Event) → states ≡ states_by r es some p.pick q
      → filter kept states ≡ state_part r es pick q
  states_kept some named states same = by p.pick refl some refl same where
    by : (k : Pick) → p.pick ≡ k → (l : Bool) → some ≡ l → states ≡ states_by r es l k q → filter kept states ≡ state_part r es pick q
    by kind.New is l off h = ap (filter kept) h ∙ whole
    by (kind.Later from since base redundant stays) is true on h = ap (filter kept) h ∙ whole
    by (kind.Later from since base redundant stays) is false off h =
        ap (filter kept) h
        ∙ later from since base redundant stays is (λ e. nobody p sent senders (sym named ∙ off) e e.state_key) (state_list r es q) ∙ whole

and_turn : (a b : Bool) → (a && b) ≡ (b && a)
and_turn true b = sym (and_true b) where
  and_true : (c : Bool) → (c && true) ≡ c
  and_true true = refl
  and_true false = refl
and_turn false b = sym (and_false b)

kept_is : (v : Reading) (p : Picker) (xs : List Event) → filter (is_kept_by v p) xs ≡ filter (λ e. (sieve v).keeps e && picked p e) xs
unfolding is_kept_by
kept_is v p xs =
    filter-same (λ e. picked p e && (sieve v).keeps e) (λ e. (sieve v).keeps e && picked p e) xs
    (AllByRecursion-every (λ e. (picked p e && (sieve v).keeps e) ≡ ((sieve v).keeps e && picked p e)) (λ e. and_turn (picked p e) ((sieve v).keeps e)) xs)

state_is_listed : (v : Reading) → stand_from position_of 1 v.events.now ≡ true → (q : ℕ) → standing_in v.room.now 0 q v.events.now ≡ state_list (room_in v) (events_of v) q
state_is_listed v placed q = standing.state_is (sieve v) v.user.now v.room.now q v.events.now placed

-- what stands in the state is found among the room's state events
standing_by : (v : Reading) → stand_from position_of 1 v.events.now ≡ true → (named : Bool) (k : Pick) (q : ℕ)
    → standing_in v.room.now (start_by named k) q v.events.now ≡ states_by (room_in v) (events_of v) named k q
standing_by v placed named kind.New q = state_is_listed v placed q
standing_by v placed true (kind.Later from since base redundant stays) q = state_is_listed v placed q
standing_by v placed false (kind.Later from since base redundant stays) q = standing_is (sieve v) v.user.now v.room.now from q v.events.now placed

pub sent_states : (v : Reading) (p : Picker) → stand_from position_of 1 v.events.now ≡ true → (named : Bool) (k : Pick) (q start : ℕ) → start ≡ start_by named k
    → filter (is_sent_by v p q) (between position_of start q (states v.room.now v.events.now)) ≡ filter (is_kept_by v p) (states_by (room_in v) (events_of v) named k q)
unfolding is_sent_by
sent_states v p placed named k q start at =
    ap (λ n. filter (λ e. is_kept_by v p e && stands (events_of v) q e) (between position_of n q (states v.room.now v.events.now))) at
    ∙ sym (twice (stands (events_of v) q) (is_kept_by v p) (between position_of (start_by named k) q (states v.room.now v.events.now)))
    ∙ filter-swap (stands (events_of v) q) (is_kept_by v p) (between position_of (start_by named k) q (states v.room.now v.events.now))
    ∙ ap (filter (is_kept_by v p)) (standing_by v placed named k q)

-- what the code keeps, by a picker of the reading
pub state_is : (v : Reading) (p : Picker) (sent : List Event) → p.user.now ≡ v.user.now → p.lazy ≡ (sieve v).lazy → HasSenders p.senders sent → IsStayed v.user.now (events_of v) p.pick
    → (some : Bool) → some ≡ (p.lazy && (is_cons sent || is_cons p.heroes.now))
    → (q : ℕ) (made : List Event) → made ≡ filter (is_kept_by v p) (states_by (room_in v) (events_of v) some p.pick q)
    → made ≡ part.state_part v (pick_of (room_in v) p.heroes.now p.pick sent) q
state_is v p sent user lazy senders stayed some named q made is =
    is ∙ kept_is v p (states_by (room_in v) (events_of v) some p.pick q)
    ∙ subst
    (λ u. IsStayed u (events_of v) p.pick
    → filter (λ e. (sieve v).keeps e && picked p e) (states_by (room_of (sieve v) u (events_of v)) (events_of v) some p.pick q)
    ≡ state_part (room_of (sieve v) u (events_of v)) (events_of v) (pick_of (room_of (sieve v) u (events_of v)) p.heroes.now p.pick sent) q)
    user (λ own. states_kept (sieve v) (events_of v) sent p lazy senders own q some named (states_by (room_of (sieve v) p.user.now (events_of v)) (events_of v) some p.pick q) refl) stayed

-- the state that is sent with a window's section
pub part_state : (v : Reading) (w : Window) (p : Picker) (sent made : List Event) (cut q : ℕ) → p.user.now ≡ v.user.now → p.lazy ≡ (sieve v).lazy
    → HasSenders p.senders sent → IsStayed v.user.now (events_of v) p.pick → sent ≡ part.section_of v w → cut ≡ part.cut_of v w → q ≡ cond w.after w.high cut
    → (some : Bool) → some ≡ (p.lazy && (is_cons sent || is_cons p.heroes.now))
    → made ≡ filter (is_kept_by v p) (states_by (room_in v) (events_of v) some p.pick q)
    → made ≡ part.state_of v w (pick_of (room_in v) p.heroes.now p.pick)
part_state v w p sent made cut q user lazy senders stayed same before at some named is =
    state_is v p sent user lazy senders stayed some named q made is
    ∙ ap₂ (λ (s : List Event) (n : ℕ). part.state_part v (pick_of (room_in v) p.heroes.now p.pick s) n) same (at ∙ ap (λ n. cond w.after w.high n) before)

-- one event more is looked at
pub kept_step : (t : Event → Bool) (states : List (Bor Event)) (i : ℕ) (e : Bor Event) (made new : List Event) → drop i states ≡ e ∷ drop (i + 1) states
    → made ++ filter t (all_now (drop i states)) ≡ filter t (all_now states) → new ≡ made ++ filter t (e.now ∷ [])
    → new ++ filter t (all_now (drop (i + 1) states)) ≡ filter t (all_now states)
kept_step t states i e made new next before more =
    ap (λ l. l ++ filter t (all_now (drop (i + 1) states))) more
    ∙ append_assoc made (filter t (e.now ∷ [])) (filter t (all_now (drop (i + 1) states)))
    ∙ ap (λ l. made ++ l) (sym (filter-append t (e.now ∷ []) (all_now (drop (i + 1) states))) ∙ ap (λ l. filter t (all_now l)) (sym next)) ∙ before
