-- A part that says nothing, and the timeline without the stretches of its gaps.
use Rattle.std.proofs.Common.{◌≡◌, ℕ, ◌<◌, ◌≤◌, Bool, true, false, cond, not, ◌&&◌, ◌||◌, nat_lt, nat_le, List, [], ◌∷◌, ◌++◌, map, Option, Some, None, option_map, filter, refl, ap, sym, ◌∙◌, arith, append-nil, lt-ltb, le-ltb, le-leb}
use Rattle.std.proofs.lemmas.Bool.{and_from, and_left, and_right, or_parts, or_from, or_left, true≢false, lt-leb, not_from_true}
use Rattle.std.proofs.lemmas.List.Elements.{filter-append}
use Rattle.std.specs.List.{list_any, AllByRecursion}
use Rattle.mx_window.specs.Windows.{between}
use Rattle.mx_window.proofs.Each.{AllByRecursion-map, AllByRecursion-append, AllByRecursion-weaker, AllByRecursion-filter, filter-same}
use Rattle.mx_window.proofs.Intervals.{between-within}
use Rattle.mx_folding.specs.Rooms.{Room, state_at, mine}
use Rattle.mx_folding.specs.Sections.{sendable}
use Rattle.mx_folding.specs.Redactions.{redact_by}
use Rattle.mx_folding.specs.Parts.{is_sender, is_cons}
use Rattle.mx_folding.specs.Clients.{Entry, Held, Open, held, ClientRoom, put_all, redact_entry, with_part}
use Rattle.mx_folding.specs.Agreement.{pictured, filled, Rises, is_gap_before}
use Rattle.mx_folding.proofs.Timelines.{filled-held}
use Rattle.mx_folding.specs.Laws.{FoldsNothing, is_in_gap, OpenTimeline, WholeState, ClosedTimeline}

same_option : {E : Type 0} (f : E → E) → ((e : E) → f e ≡ e) → (o : Option E) → option_map f o ≡ o
same_option f h None = refl
same_option f h (Some e) = ap Some (h e)

put_none : {E K : Type 0} (r : Room E K) (after : Bool) (state : K → Option E) (k : K) → put_all r (cond after [] []) (put_all r [] state) k ≡ state k
put_none r true state k = refl
put_none r false state k = refl

redact_none : {E K : Type 0} (r : Room E K) (tl : List (Entry E)) → map (redact_entry r []) tl ≡ tl
redact_none r [] = refl
redact_none r (Held c ∷ tl) = ap (λ l. Held c ∷ l) (redact_none r tl)
redact_none r (Open gap ∷ tl) = ap (λ l. Open gap ∷ l) (redact_none r tl)

nothing_put : {E K : Type 0} (r : Room E K) (after : Bool) (s q t : ℕ) (room : ClientRoom E K)
    → with_part r after s t (record { limited = false; cut = q; state = []; sent = [] }) room ≡ room
nothing_put r after s q t room =
    let kept : (k : _) → option_map (redact_by r []) (put_all r (cond after [] []) (put_all r [] room.state) k) ≡ room.state k =
    λ k. same_option (redact_by r []) (λ e. refl) (put_all r (cond after [] []) (put_all r [] room.state) k) ∙ put_none r after room.state k in
    let same : map (redact_entry r []) (room.timeline ++ [] ++ []) ≡ room.timeline =
    redact_none r (room.timeline ++ [] ++ []) ∙ append-nil (room.timeline ++ []) ∙ append-nil room.timeline in
    λ i. record { state = λ k. kept k i; timeline = same i }

is_nil : {A : Type 0} (xs : List A) → is_cons xs ≡ false → xs ≡ []
is_nil [] h = refl
is_nil (x ∷ xs) h = absurd (true≢false h)

pub folds_nothing : {E K : Type 0} → FoldsNothing E K
folds_nothing r after s t part room h =
    let parts = or_parts part.limited (is_cons part.state || is_cons part.sent) h in
    let rest = or_parts (is_cons part.state) (is_cons part.sent) parts.1 in
    let none : part ≡ record { limited = false; cut = part.cut; state = []; sent = [] } =
    λ i. record { limited = parts.0 i; cut = part.cut; state = is_nil part.state rest.0 i; sent = is_nil part.sent rest.1 i } in
    ap (λ p. with_part r after s t p room) none ∙ nothing_put r after s part.cut t room

-- in a part of a timeline that begins at low, no gap reaches to low or below
gap_above : {C : Type 0} (at : C → ℕ) (t low high p : ℕ) (tl : List (Entry C)) → Rises at t low high tl → p ≤ low → list_any (is_in_gap p) tl ≡ false
gap_above at t low high p [] h k = refl
gap_above at t low high p (Held c ∷ tl) h k = let first : low < at c = h.0 in gap_above at t (at c) high p tl h.1 (omega arith)
gap_above at t low high p (Open gap ∷ tl) h k =
    let first : low ≤ gap.lower = h.0 in let next : gap.lower ≤ gap.upper = h.1 in
    or_from (nat_lt gap.lower p
    && nat_le p gap.upper) (list_any (is_in_gap p) tl) (and_left (nat_lt gap.lower p) (nat_le p gap.upper) (le-ltb gap.lower p (omega arith)))
    (gap_above at t gap.upper high p tl h.3 (omega arith))

-- the positions of a timeline that is filled lie above where it begins
filled_above : {C : Type 0} (at : C → ℕ) (picture : ℕ → ℕ → List ℕ) → ((l u : ℕ) → AllByRecursion (λ p. (l < p) × (p ≤ u)) (picture l u))
    → (t low high : ℕ) (tl : List (Entry C)) → Rises at t low high tl → AllByRecursion (λ p. low < p) (filled at picture tl)
filled_above at picture lies t low high [] h = tt
filled_above at picture lies t low high (Held c ∷ tl) h =
    let first : low < at c = h.0 in (
      first,
      AllByRecursion-weaker (λ p. at c < p) (λ p. low < p) (λ p k. let k' : at c < p = k in omega arith)
          (filled at picture tl) (filled_above at picture lies t (at c) high tl h.1),
    )
filled_above at picture lies t low high (Open gap ∷ tl) h =
    let first : low ≤ gap.lower = h.0 in let next : gap.lower ≤ gap.upper = h.1 in
    AllByRecursion-append (λ p. low < p) (picture gap.lower gap.upper) (filled at picture tl)
    (AllByRecursion-weaker (λ p. (gap.lower < p)
    × (p ≤ gap.upper)) (λ p. low < p) (λ p k. let k' : gap.lower < p = k.0 in omega arith) (picture gap.lower gap.upper) (lies gap.lower gap.upper))
    (AllByRecursion-weaker (λ p. gap.upper < p) (λ p. low < p) (λ p k. let k' : gap.upper < p = k in omega arith)
    (filled at picture tl) (filled_above at picture lies t gap.upper high tl h.3))

filter_none : {A : Type 0} (test : A → Bool) (xs : List A) → AllByRecursion (λ x. test x ≡ false) xs → filter test xs ≡ []
filter_none test [] h = refl
filter_none test (x ∷ xs) h = rw (h.0) (filter_none test xs h.1)

rest_of : {C : Type 0} (at : C → ℕ) (picture : ℕ → ℕ → List ℕ) → ((l u : ℕ) → AllByRecursion (λ p. (l < p) × (p ≤ u)) (picture l u))
    → (t low high : ℕ) (tl : List (Entry C)) → Rises at t low high tl → map at (held tl) ≡ filter (λ p. not (list_any (is_in_gap p) tl)) (filled at picture tl)
rest_of at picture lies t low high [] h = refl
rest_of at picture lies t low high (Held c ∷ tl) h =
    let here : list_any (is_in_gap (at c)) tl ≡ false = gap_above at t (at c) high (at c) tl h.1 (omega arith) in
    let rest = rest_of at picture lies t (at c) high tl h.1 in
    rw here (ap (λ l. at c ∷ l) rest)
rest_of at picture lies t low high (Open gap ∷ tl) h =
    let rest = rest_of at picture lies t gap.upper high tl h.3 in
    let outside : ℕ → Bool = λ p. not ((nat_lt gap.lower p && nat_le p gap.upper) || list_any (is_in_gap p) tl) in
    let out : filter outside (picture gap.lower gap.upper) ≡ [] =
    filter_none outside (picture gap.lower gap.upper) (AllByRecursion-weaker (λ p. (gap.lower < p) × (p ≤ gap.upper)) (λ p. outside p ≡ false)
    (λ p k. not_from_true ((nat_lt gap.lower p && nat_le p gap.upper) || list_any (is_in_gap p) tl)
    (or_left (nat_lt gap.lower p
    && nat_le p gap.upper) (list_any (is_in_gap p) tl)
    (and_from (nat_lt gap.lower p) (nat_le p gap.upper) (lt-ltb gap.lower p k.0) (le-leb p gap.upper k.1))))
    (picture gap.lower gap.upper) (lies gap.lower gap.upper)) in
    let same : filter outside (filled at picture tl) ≡ filter (λ p. not (list_any (is_in_gap p) tl)) (filled at picture tl) =
    filter-same outside (λ p. not (list_any (is_in_gap p) tl)) (filled at picture tl)
    (AllByRecursion-weaker (λ p. gap.upper < p) (λ p. outside p ≡ not (list_any (is_in_gap p) tl))
    (λ p k. ap (λ b. not (b || list_any (is_in_gap p) tl)) (and_right (nat_lt gap.lower p) (nat_le p gap.upper) (lt-leb p gap.upper k)))
    (filled at picture tl) (filled_above at picture lies t gap.upper high tl h.3)) in
    rest ∙ sym same ∙ sym (filter-append outside (picture gap.lower gap.upper) (filled at picture tl)
    ∙ ap (λ l. l ++ filter outside (filled at picture tl)) out)

pub open_timeline : {E K : Type 0} → OpenTimeline E K
open_timeline r es t tl agrees =
    rest_of r.at (pictured r es t) (λ l u. AllByRecursion-map (λ p. (l < p) × (p ≤ u)) r.at (sendable r es t l u)
    (AllByRecursion-filter (λ e. (l < r.at e) × (r.at e ≤ u)) (r.sends t) (between r.at l u es) (between-within r.at l u es))) t 0 t tl agrees.order
    ∙ ap (filter (λ p. not (list_any (is_in_gap p) tl))) agrees.whole

same_state : {E : Type 0} (at : E → ℕ) (held there : Option E)
    → ((c : E) → ◌≡◌ {A = Option E} held (Some c) → ◌≡◌ {A = Option ℕ} (option_map at there) (Some (at c)))
    → ((v : E) → ◌≡◌ {A = Option E} there (Some v) → (c : E) × (◌≡◌ {A = Option E} held (Some c)))
    → ◌≡◌ {A = Option ℕ} (option_map at held) (option_map at there)
same_state at (Some c) there right enough = sym (right c refl)
same_state at None None right enough = refl
same_state at None (Some v) right enough = absurd (cc ((enough v refl).1))

owed_all : (lazy member rest : Bool) → (lazy && member) ≡ false → (not lazy || (not member || rest)) ≡ true
owed_all false m rest h = refl
owed_all true false rest h = refl
owed_all true true rest h = absurd (true≢false h)

pub whole_state : {E K : Type 0} → WholeState E K
whole_state r es b t tl state agrees k h =
    same_state r.at (state k) (state_at r es t k) (agrees.right k)
    (λ v is. agrees.enough k v is (owed_all r.lazy (r.member k) (mine r k
    || (is_sender r (held tl) k || ((r.stayed b t && nat_lt b (r.at v)) || list_any (is_gap_before (r.at v)) tl))) h))

pub closed_timeline : {E K : Type 0} → ClosedTimeline E K
closed_timeline r es t cs agrees = sym (filled-held r.at (pictured r es t) cs) ∙ agrees.whole
