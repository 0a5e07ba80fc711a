-- The timeline after a reply and after a page, up to the redactions.
use Rattle.std.proofs.Common.{◌≡◌, ℕ, ◌<◌, ◌≤◌, Bool, true, false, ◌&&◌, nat_lt, nat_le, List, [], ◌∷◌, ◌++◌, map, filter, refl, ap, ap₂, sym, ◌∙◌, subst, arith, append_assoc, append-nil}
use Rattle.std.proofs.lemmas.List.{map-append}
use Rattle.std.proofs.lemmas.List.Elements.{filter-append}
use Rattle.std.specs.List.{AllByRecursion}
use Rattle.mx_window.specs.Windows.{Ascends, between}
use Rattle.mx_window.proofs.Each.{AllByRecursion-filter, filter-same}
use Rattle.mx_window.proofs.Intervals.{between-split, between-inner}
use Rattle.mx_folding.specs.Parts.{gap_at}
use Rattle.mx_folding.specs.Rooms.{Room, IsRoom, StaysSent}
use Rattle.mx_folding.specs.Sections.{sendable}
use Rattle.mx_folding.specs.Redactions.{redact_by}
use Rattle.mx_folding.specs.Clients.{Entry, Held, Open, gap_if, redact_entry}
use Rattle.mx_folding.proofs.Redacting.{redact_by-at}
use Rattle.mx_folding.specs.Agreement.{pictured, filled, Rises, TimelineAgrees}

-- what may be sent of a window up to s stays
pub sendable-stays : {E K : Type 0} (r : Room E K) (es : List E) (s t low high : ℕ) → StaysSent r es s → s ≤ t → high ≤ s
    → sendable r es t low high ≡ sendable r es s low high
sendable-stays r es s t low high stays up in' =
    let inner : between r.at low high (between r.at 0 s es) ≡ between r.at low high es = between-inner r.at low high 0 s es (omega arith) in' in
    let each : AllByRecursion (λ e. r.sends t e ≡ r.sends s e) (between r.at low high (between r.at 0 s es)) =
    AllByRecursion-filter (λ e. r.sends t e ≡ r.sends s e) (λ e. nat_lt low (r.at e) && nat_le (r.at e) high) (between r.at 0 s es) (stays t up) in
    filter-same (r.sends t) (r.sends s) (between r.at low high es) (subst (AllByRecursion (λ e. r.sends t e ≡ r.sends s e)) inner each)

pub pictured-stays : {E K : Type 0} (r : Room E K) (es : List E) (s t low high : ℕ) → StaysSent r es s → s ≤ t → high ≤ s
    → pictured r es t low high ≡ pictured r es s low high
pictured-stays r es s t low high stays up in' = ap (map r.at) (sendable-stays r es s t low high stays up in')

pub sendable-split : {E K : Type 0} (r : Room E K) (es : List E) (t low mid high : ℕ) → IsRoom r es → low ≤ mid → mid ≤ high
    → sendable r es t low high ≡ sendable r es t low mid ++ sendable r es t mid high
sendable-split r es t low mid high is h k =
    ap (filter (r.sends t)) (between-split r.at low mid high 0 es is.ascends h k)
    ∙ filter-append (r.sends t) (between r.at low mid es) (between r.at mid high es)

pub pictured-split : {E K : Type 0} (r : Room E K) (es : List E) (t low mid high : ℕ) → IsRoom r es → low ≤ mid → mid ≤ high
    → pictured r es t low high ≡ pictured r es t low mid ++ pictured r es t mid high
pictured-split r es t low mid high is h k =
    ap (map r.at) (sendable-split r es t low mid high is h k) ∙ map-append r.at (sendable r es t low mid) (sendable r es t mid high)

pub filled-append : {C : Type 0} (at : C → ℕ) (picture : ℕ → ℕ → List ℕ) (xs ys : List (Entry C))
    → filled at picture (xs ++ ys) ≡ filled at picture xs ++ filled at picture ys
filled-append at picture [] ys = refl
filled-append at picture (Held c ∷ xs) ys = ap (λ l. at c ∷ l) (filled-append at picture xs ys)
filled-append at picture (Open gap ∷ xs) ys =
    ap (λ l. picture gap.lower gap.upper ++ l) (filled-append at picture xs ys)
    ∙ sym (append_assoc (picture gap.lower gap.upper) (filled at picture xs) (filled at picture ys))

pub filled-held : {C : Type 0} (at : C → ℕ) (picture : ℕ → ℕ → List ℕ) (cs : List C) → filled at picture (map Held cs) ≡ map at cs
filled-held at picture [] = refl
filled-held at picture (c ∷ cs) = ap (λ l. at c ∷ l) (filled-held at picture cs)

pub filled-gap : {C : Type 0} (at : C → ℕ) (picture : ℕ → ℕ → List ℕ) (open_still : Bool) (low high front : ℕ) → (open_still ≡ false → picture low high ≡ [])
    → filled at picture (gap_if open_still (gap_at low high front)) ≡ picture low high
filled-gap at picture true low high front h = append-nil (picture low high)
filled-gap at picture false low high front h = sym (h refl)

pub Rises-order : {C : Type 0} (at : C → ℕ) (t low high : ℕ) (es : List (Entry C)) → Rises at t low high es → low ≤ high
Rises-order at t low high [] h = h
Rises-order at t low high (Held c ∷ es) h = let first : low < at c = h.0 in let rest : at c ≤ high = Rises-order at t (at c) high es h.1 in omega arith
Rises-order at t low high (Open gap ∷ es) h =
    let first : low ≤ gap.lower =
    h.0 in let next : gap.lower ≤ gap.upper = h.1 in let rest : gap.upper ≤ high = Rises-order at t gap.upper high es h.3 in omega arith

pub Rises-lower : {C : Type 0} (at : C → ℕ) (t low mid high : ℕ) (es : List (Entry C)) → Rises at t mid high es → low ≤ mid → Rises at t low high es
Rises-lower at t low mid high [] h k = let h' : mid ≤ high = h in omega arith
Rises-lower at t low mid high (Held c ∷ es) h k = let first : mid < at c = h.0 in (omega arith, h.1)
Rises-lower at t low mid high (Open gap ∷ es) h k = let first : mid ≤ gap.lower = h.0 in (omega arith, h.1, h.2, h.3)

pub Rises-append : {C : Type 0} (at : C → ℕ) (t low mid high : ℕ) (xs ys : List (Entry C)) → Rises at t low mid xs
    → Rises at t mid high ys → Rises at t low high (xs ++ ys)
Rises-append at t low mid high [] ys h k = Rises-lower at t low mid high ys k h
Rises-append at t low mid high (Held c ∷ xs) ys h k = (h.0, Rises-append at t (at c) mid high xs ys h.1 k)
Rises-append at t low mid high (Open gap ∷ xs) ys h k = (h.0, h.1, h.2, Rises-append at t gap.upper mid high xs ys h.3 k)

pub Rises-front : {C : Type 0} (at : C → ℕ) (s t low high : ℕ) (es : List (Entry C)) → s ≤ t → Rises at s low high es → Rises at t low high es
Rises-front at s t low high [] up h = h
Rises-front at s t low high (Held c ∷ es) up h = (h.0, Rises-front at s t (at c) high es up h.1)
Rises-front at s t low high (Open gap ∷ es) up h = let cut_at : gap.front ≤ s = h.2 in (h.0, h.1, omega arith, Rises-front at s t gap.upper high es up h.3)

pub Rises-held : {C : Type 0} (at : C → ℕ) (t low high : ℕ) (cs : List C) → Ascends at low cs
    → AllByRecursion (λ c. at c ≤ high) cs → low ≤ high → Rises at t low high (map Held cs)
Rises-held at t low high [] up upto h = h
Rises-held at t low high (c ∷ cs) up upto h = (up.0, Rises-held at t (at c) high cs up.1 upto.1 upto.0)

pub Rises-gap : {C : Type 0} (at : C → ℕ) (t low high front : ℕ) (open_still : Bool) → low ≤ high → front ≤ t
    → Rises {C = C} at t low high (gap_if open_still (gap_at low high front))
Rises-gap at t low high front true h k = (omega arith, h, k, omega arith)
Rises-gap at t low high front false h k = h

-- a gap that stands in a timeline, and the two halves around it
pub Rises-around : {C : Type 0} (at : C → ℕ) (t low high lower upper front : ℕ) (before behind : List (Entry C))
    → Rises at t low high (before ++ Open (gap_at lower upper front) ∷ behind)
    → Rises at t low lower before × (lower ≤ upper) × (front ≤ t) × Rises at t upper high behind
Rises-around at t low high lower upper front [] behind h = (h.0, h.1, h.2, h.3)
Rises-around at t low high lower upper front (Held c ∷ before) behind h =
    let rest = Rises-around at t (at c) high lower upper front before behind h.1 in ((h.0, rest.0), rest.1, rest.2, rest.3)
Rises-around at t low high lower upper front (Open gap ∷ before) behind h =
    let rest = Rises-around at t gap.upper high lower upper front before behind h.3 in ((h.0, h.1, h.2, rest.0), rest.1, rest.2, rest.3)

-- pictures that agree on all stretches up to the end fill the same
pub filled-same : {C : Type 0} (at : C → ℕ) (p q : ℕ → ℕ → List ℕ) (t low high : ℕ) (es : List (Entry C)) → Rises at t low high es
    → ((l u : ℕ) → u ≤ high → p l u ≡ q l u) → filled at p es ≡ filled at q es
filled-same at p q t low high [] h k = refl
filled-same at p q t low high (Held c ∷ es) h k = ap (λ l. at c ∷ l) (filled-same at p q t (at c) high es h.1 k)
filled-same at p q t low high (Open gap ∷ es) h k =
    ap₂ (λ a b. a ++ b) (k gap.lower gap.upper (Rises-order at t gap.upper high es h.3)) (filled-same at p q t gap.upper high es h.3 k)

-- a timeline's picture and order don't change where entries are replaced at their positions
pub filled-redact : {E K : Type 0} (r : Room E K) (es by : List E) (is : IsRoom r es) (picture : ℕ → ℕ → List ℕ) (tl : List (Entry E))
    → filled r.at picture (map (redact_entry r by) tl) ≡ filled r.at picture tl
filled-redact r es by is picture [] = refl
filled-redact r es by is picture (Held c ∷ tl) = ap₂ (λ a b. a ∷ b) (redact_by-at r es by is c) (filled-redact r es by is picture tl)
filled-redact r es by is picture (Open gap ∷ tl) = ap (λ l. picture gap.lower gap.upper ++ l) (filled-redact r es by is picture tl)

pub Rises-redact : {E K : Type 0} (r : Room E K) (es by : List E) (is : IsRoom r es) (t low high : ℕ) (tl : List (Entry E))
    → Rises r.at t low high tl → Rises r.at t low high (map (redact_entry r by) tl)
Rises-redact r es by is t low high [] h = h
Rises-redact r es by is t low high (Held c ∷ tl) h =
    let same : r.at (redact_by r by c) ≡ r.at c = redact_by-at r es by is c in (
      subst (λ x. low < x) (sym same) h.0,
      subst (λ x. Rises r.at t x high (map (redact_entry r by) tl))
          (sym same) (Rises-redact r es by is t (r.at c) high tl h.1),
    )
Rises-redact r es by is t low high (Open gap ∷ tl) h = (h.0, h.1, h.2, Rises-redact r es by is t gap.upper high tl h.3)

-- the timeline after a reply: the section is a window, and so is what the gap leaves out
pub timeline_reply : {E K : Type 0} (r : Room E K) (es : List E) (s t q : ℕ) (limited : Bool) (sent : List E) (tl : List (Entry E))
    → IsRoom r es → StaysSent r es s
    → s ≤ q → q ≤ t → map r.at sent ≡ pictured r es t q t → Ascends r.at q sent → AllByRecursion (λ e. r.at e ≤ t) sent
    → (limited ≡ false → pictured r es t s q ≡ [])
    → TimelineAgrees r es s tl → TimelineAgrees r es t (tl ++ gap_if limited (gap_at s q t) ++ map Held sent)
timeline_reply {E = E} r es s t q limited sent tl is stays low high sends up upto none agrees =
    let p : ℕ → ℕ → List ℕ = pictured r es t in
    let gap : List (Entry E) = gap_if limited (gap_at s q t) in
    let old : filled r.at (pictured r es t) tl ≡ pictured r es t 0 s =
    filled-same r.at (pictured r es t) (pictured r es s) s 0 s tl agrees.order (λ l u k. pictured-stays r es s t l u stays (omega arith) k)
    ∙ agrees.whole ∙ sym (pictured-stays r es s t 0 s stays (omega arith) (omega arith)) in
    let mid : filled r.at (pictured r es t) (gap_if limited (gap_at s q t)) ≡ pictured r es t s q = filled-gap r.at (pictured r es t) limited s q t none in
    let new : filled r.at (pictured r es t) (map Held sent) ≡ pictured r es t q t = filled-held r.at (pictured r es t) sent ∙ sends in
    record {
      whole =
          filled-append r.at p (tl ++ gap) (map Held sent)
          ∙ ap₂ (λ a b. a ++ b) (filled-append r.at p tl gap ∙ ap₂ (λ a b. a ++ b) old mid) new
          ∙ ap (λ a. a ++ pictured r es t q t) (sym (pictured-split r es t 0 s q is (omega arith) low))
          ∙ sym (pictured-split r es t 0 q t is (omega arith) high);
      order = Rises-append r.at t 0 q t (tl ++ gap) (map Held sent)
          (Rises-append r.at t 0 s q tl gap (Rises-front r.at s t 0 s tl (omega arith) agrees.order) (Rises-gap r.at t s q t limited low (omega arith)))
          (Rises-held r.at t q t sent up upto high);
    }

-- the timeline after a page: the gap's stretch is split in two
pub timeline_page : {E K : Type 0} (r : Room E K) (es : List E) (t lower upper g mid : ℕ) (more : Bool)
    (sent : List E) (before behind : List (Entry E)) → IsRoom r es
    → lower ≤ mid → mid ≤ upper → map r.at sent ≡ pictured r es t mid upper → Ascends r.at mid sent → AllByRecursion (λ e. r.at e ≤ upper) sent
    → (more ≡ false → pictured r es t lower mid ≡ [])
    → TimelineAgrees r es t (before ++ Open (gap_at lower upper g) ∷ behind)
    → TimelineAgrees r es t (before ++ gap_if more (gap_at lower mid g) ++ map Held sent ++ behind)
timeline_page {E = E} r es t lower upper g mid more sent before behind is low high sends up upto none agrees =
    let p : ℕ → ℕ → List ℕ = pictured r es t in
    let gap : List (Entry E) = gap_if more (gap_at lower mid g) in
    let around = Rises-around r.at t 0 t lower upper g before behind agrees.order in
    let first : filled r.at p gap ≡ pictured r es t lower mid = filled-gap r.at p more lower mid g none in
    let second : filled r.at p (map Held sent) ≡ pictured r es t mid upper = filled-held r.at p sent ∙ sends in
    let new : filled r.at p (before ++ gap ++ map Held sent) ≡ filled r.at p before ++ pictured r es t lower upper =
    filled-append r.at p (before ++ gap) (map Held sent)
    ∙ ap₂ (λ a b. a ++ b) (filled-append r.at p before gap ∙ ap (λ a. filled r.at p before ++ a) first) second
    ∙ append_assoc (filled r.at p before) (pictured r es t lower mid) (pictured r es t mid upper)
    ∙ ap (λ a. filled r.at p before ++ a) (sym (pictured-split r es t lower mid upper is low high)) in
    record {
      whole =
          filled-append r.at p (before ++ gap ++ map Held sent) behind
          ∙ ap (λ a. a ++ filled r.at p behind) new
          ∙ append_assoc (filled r.at p before) (pictured r es t lower upper) (filled r.at p behind)
          ∙ sym (filled-append r.at p before (Open (gap_at lower upper g) ∷ behind))
          ∙ agrees.whole;
      order = Rises-append r.at t 0 upper t (before ++ gap ++ map Held sent) behind
          (Rises-append r.at t 0 mid upper (before ++ gap) (map Held sent)
          (Rises-append r.at t 0 lower mid before gap around.0 (Rises-gap r.at t lower mid g more low around.2))
          (Rises-held r.at t mid upper sent up upto high))
          around.3;
    }
