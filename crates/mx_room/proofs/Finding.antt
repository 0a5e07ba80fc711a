-- Where a room stands among the rooms of a writer.
use Rattle.std.proofs.Common.{◌≡◌, ◌≢◌, ℕ, zero, suc, ◌≤◌, ◌<◌, true, false, cond, List, [], ◌∷◌, length, get_or, set, map, ltb, Bool, ◌==◌, Some, None, refl, ap, ◌∙◌, arith}
use Rattle.std.proofs.lemmas.Bool.{eq-eqb, ne_eqb, ltb-true, ltb-false}
use Rattle.std.specs.List.{AllByRecursion}
use Rattle.std.specs.Option.{option_map_or}
use Rattle.std.specs.List.Sorted.{IsNonDecreasingBy, IsPartitionPoint}
use Rattle.mx_auth.specs.Standing.{Standing}
use Rattle.mx_room.specs.declared.rooms.Room.{Room}
use Rattle.mx_room.specs.Held.{Bare, Rises, bare, events_at, state_at}

abbrev pub at_of : Room → ℕ
at_of r = r.at

-- ---- the order

all_at : (P : Bare → Type 0) (rs : List Room) → AllByRecursion P (map bare rs) → (k : ℕ) (d : Room) → k < length rs → P (bare (get_or rs k d))
all_at P [] h k d l = absurd (omega (arith, l))
all_at P (r ∷ rs) h zero d l = h.0
all_at P (r ∷ rs) h (suc k) d l = all_at P rs h.1 k d (omega (arith, l))

lt_le : (m n : ℕ) → m < n → m ≤ n
lt_le m n l = omega (arith, l)

le_self : (n : ℕ) → n ≤ n
le_self n = omega arith

pub rises_by : (rs : List Room) → Rises (map bare rs) → IsNonDecreasingBy at_of rs
rises_by [] h i j d l m = absurd (omega (arith, m))
rises_by (r ∷ rs) h zero zero d l m = le_self r.at
rises_by (r ∷ rs) h zero (suc j) d l m = lt_le r.at (get_or rs j d).at (all_at (λ (s : Bare). r.at < s.0) rs h.0 j d (omega (arith, m)))
rises_by (r ∷ rs) h (suc i) zero d l m = absurd (omega (arith, l))
rises_by (r ∷ rs) h (suc i) (suc j) d l m = rises_by rs h.1 i j d (omega (arith, l)) (omega (arith, m))

-- ---- the room at a position

not-same : (m n : ℕ) → m < n → m ≢ n
not-same m n l e = omega (arith, l, e)

not-same-above : (m n : ℕ) → n < m → m ≢ n
not-same-above m n l e = omega (arith, l, e)

skipped : (r : Room) (rs : List Room) (at : ℕ) → r.at ≢ at → state_at at (r ∷ rs) ≡ state_at at rs
skipped r rs at other = ap (λ b. cond b (Some r.state) (state_at at rs)) (ne_eqb r.at at other)

above_none : (at : ℕ) (rs : List Room) → AllByRecursion (λ (s : Bare). at < s.0) (map bare rs) → state_at at rs ≡ None
above_none at [] h = refl
above_none at (r ∷ rs) h = skipped r rs at (not-same-above r.at at h.0) ∙ above_none at rs h.1

above_all : (low at : ℕ) (rs : List Bare) → at < low → AllByRecursion (λ (s : Bare). low < s.0) rs → AllByRecursion (λ (s : Bare). at < s.0) rs
above_all low at [] l h = tt
above_all low at (r ∷ rs) l h = (omega (arith, l, h.0), above_all low at rs l h.1)

abbrev Point : ℕ → List Room → ℕ → Type 0
Point at rs i = IsPartitionPoint (λ (r : Room). ltb r.at at ≡ true) (λ (r : Room). ltb r.at at ≡ false) rs i

later : (at : ℕ) (r : Room) (rs : List Room) (i : ℕ) → Point at (r ∷ rs) (suc i) → Point at rs i
later at r rs i h = (λ k d l m. h.0 (suc k) d (omega arith) (omega (arith, m)), λ k d l m. h.1 (suc k) d (omega (arith, l)) (omega (arith, m)))

-- it is found at the point
pub found_at : (at : ℕ) (rs : List Room) (i : ℕ) (d : Room) → Point at rs i → i < length rs → (get_or rs i d).at ≡ at → state_at at rs ≡ Some (get_or rs i d).state
found_at at [] i d h l is = absurd (omega (arith, l))
found_at at (r ∷ rs) zero d h l is = ap (λ b. cond b (Some r.state) (state_at at rs)) (eq-eqb r.at at is)
found_at at (r ∷ rs) (suc i) d h l is =
    skipped r rs at (not-same r.at at (ltb-true r.at at (h.0 0 d (omega arith) (omega arith)))) ∙ found_at at rs i d (later at r rs i h) (omega (arith, l)) is

-- a room stands where its position is
pub state_of : (at : ℕ) (rs : List Room) (i : ℕ) (d : Room) → Rises (map bare rs) → i < length rs → (get_or rs i d).at ≡ at → state_at at rs ≡ Some (get_or rs i d).state
state_of at [] i d rises l is = absurd (omega (arith, l))
state_of at (r ∷ rs) zero d rises l is = ap (λ b. cond b (Some r.state) (state_at at rs)) (eq-eqb r.at at is)
state_of at (r ∷ rs) (suc i) d rises l is =
    skipped r rs at (not-same r.at at (below r.at (get_or rs i d).at at (all_at (λ (s : Bare). r.at < s.0) rs rises.0 i d (omega (arith, l))) is)) ∙ state_of at rs i d rises.1 (omega (arith, l)) is where
      below : (m n k : ℕ) → m < n → n ≡ k → m < k
      below m n k l e = omega (arith, l, e)

-- or nowhere
pub missed_at : (at : ℕ) (rs : List Room) (i : ℕ) → Rises (map bare rs) → Point at rs i → ((d : Room) → i < length rs → (get_or rs i d).at ≢ at) → state_at at rs ≡ None
missed_at at [] i rises h other = refl
missed_at at (r ∷ rs) zero rises h other =
    let apart : r.at ≢ at = other r (omega arith) in
    let least : at ≤ r.at = ltb-false r.at at (h.1 0 r (omega arith) (omega arith)) in
    skipped r rs at apart ∙ above_none at rs (above_all r.at at (map bare rs) (strict at r.at least apart) rises.0) where
      strict : (m n : ℕ) → m ≤ n → n ≢ m → m < n
      strict m n l e = omega (arith, l, e)
missed_at at (r ∷ rs) (suc i) rises h other =
    skipped r rs at (not-same r.at at (ltb-true r.at at (h.0 0 r (omega arith) (omega arith)))) ∙ missed_at at rs i rises.1 (later at r rs i h) (λ d l. other d (omega (arith, l)))

-- ---- one room changes

pub bare_set : (rs : List Room) (i : ℕ) (d r : Room) → i < length rs → bare r ≡ bare (get_or rs i d) → map bare (set rs i r) ≡ map bare rs
bare_set [] i d r l is = absurd (omega (arith, l))
bare_set (x ∷ rs) zero d r l is = ap (λ b. b ∷ map bare rs) is
bare_set (x ∷ rs) (suc i) d r l is = ap (λ bs. bare x ∷ bs) (bare_set rs i d r (omega (arith, l)) is)

pub at_set : (rs : List Room) (i : ℕ) (d r : Room) → i < length rs → get_or (set rs i r) i d ≡ r
at_set [] i d r l = absurd (omega (arith, l))
at_set (x ∷ rs) zero d r l = refl
at_set (x ∷ rs) (suc i) d r l = at_set rs i d r (omega (arith, l))

-- ---- the events of a room

-- a room that isn't found has no events
pub none_at : (at : ℕ) (rs : List Room) → state_at at rs ≡ None → events_at at (map bare rs) ≡ []
none_at at [] is = refl
none_at at (r ∷ rs) is = inside (r.at == at) (none_at at rs) is where
  inside : (b : Bool) → (state_at at rs ≡ None → events_at at (map bare rs) ≡ []) → cond b (Some r.state) (state_at at rs) ≡ None → cond b r.state.events (events_at at (map bare rs)) ≡ []
  inside true rest e = absurd cc
  inside false rest e = rest e

-- and one that is has those of its state
pub some_at : (at : ℕ) (rs : List Room) (s : Standing) → state_at at rs ≡ Some s → events_at at (map bare rs) ≡ s.events
some_at at [] s is = absurd cc
some_at at (r ∷ rs) s is = inside (r.at == at) (some_at at rs s) is where
  inside : (b : Bool) → (state_at at rs ≡ Some s → events_at at (map bare rs) ≡ s.events) → cond b (Some r.state) (state_at at rs) ≡ Some s → cond b r.state.events (events_at at (map bare rs)) ≡ s.events
  inside true rest e = ap (λ o. option_map_or (λ (t : Standing). t.events) o []) e
  inside false rest e = rest e
