-- A section and a chunk are the sendable events of a window, and what is known of it.
use Rattle.std.proofs.Common.{◌↔◌, ◌≡◌, ℕ, ◌-◌, ◌<◌, ◌≤◌, Bool, true, false, cond, not, ◌&&◌, nat_lt, nat_le, List, [], ◌∷◌, ◌++◌, map, length, refl, ap, sym, ◌∙◌, subst, arith, ltb-false, le-ltb, length-append}
use Rattle.std.proofs.lemmas.Bool.{true≢false, false≢true}
use Rattle.std.specs.List.{list_any, AllByRecursion}
use Rattle.mx_window.specs.Windows.{Ascends, between, before_first}
use Rattle.mx_window.specs.Lasts.{last}
use Rattle.mx_window.proofs.Each.{AllByRecursion-map, AllByRecursion-weaker, AllByRecursion-filter, AllByRecursion-passed, AllByRecursion-none, map-map, map-same}
use Rattle.mx_window.proofs.Intervals.{between-inner, between-within, Ascends-filter, Ascends-between, Ascends-map}
use Rattle.mx_window.proofs.Sections.{last-between, after-last, list_any-filter, AllByRecursion-drop}
use Rattle.mx_folding.specs.Rooms.{Room, IsRoom, is_kept}
use Rattle.mx_folding.specs.Sections.{sendable, break_at, section, cut, is_limited, chunk, window}
use Rattle.mx_folding.specs.Redactions.{shown}
use Rattle.mx_folding.specs.Laws.{SectionIsWindow, SentIsVisible}
use Rattle.mx_folding.proofs.Timelines.{sendable-split}
use Rattle.mx_folding.proofs.Redacting.{shown-at}

-- what is known of the events that are sent for (low, high], visible at the front
pub record Sent {E K : Type 0} (r : Room E K) (es : List E) (front low high q : ℕ) (sent : List E) (more : Bool) : Type 0 where
  pub is : sent ≡ sendable r es front q high
  pub low_q : low ≤ q
  pub q_high : q ≤ high
  pub none : more ≡ false → sendable r es front low q ≡ []

nil_of_length : {A : Type 0} (xs : List A) → length xs ≤ 0 → xs ≡ []
nil_of_length [] h = refl
nil_of_length (x ∷ xs) h = absurd (omega arith)

none_left : {A : Type 0} (xs ys zs : List A) (sent : List A) → zs ≡ xs ++ ys → sent ≡ ys → nat_lt (length sent) (length zs) ≡ false → xs ≡ []
none_left xs ys zs sent e f h =
    let up : length zs ≤ length sent = ltb-false (length sent) (length zs) h in
    nil_of_length xs (omega (arith, up, ap length e, ap length f, length-append xs ys))

sent_from : {E K : Type 0} (r : Room E K) (es : List E) (limit front low from high q : ℕ) (sent : List E) → IsRoom r es → low ≤ from → from ≤ high
    → sent ≡ last limit (sendable r es front from high) → q ≡ before_first r.at high sent
    → Sent r es front low high q sent (nat_lt (length sent) (length (sendable r es front low high)))
sent_from r es limit front low from high q sent room h k e qe =
    let facts = last-between r.at (r.sends front) limit from high 0 es room.ascends k q (qe ∙ ap (before_first r.at high) e) in
    let q_low : from ≤ q = facts.1 in
    let q_high : q ≤ high = facts.2 in
    let low_q : low ≤ q = omega arith in
    let is : sent ≡ sendable r es front q high = e ∙ facts.0 in
    record {
      is = is;
      low_q = low_q;
      q_high = q_high;
      none =
          none_left (sendable r es front low q) (sendable r es front q high) (sendable r es front low high) sent
          (sendable-split r es front low q high room low_q q_high) is;
    }

pub break_within : {E K : Type 0} (r : Room E K) (es : List E) (front low high : ℕ) → IsRoom r es → low ≤ high
    → (low ≤ break_at r es front low high) × (break_at r es front low high ≤ high)
    × (list_any (λ e. is_kept r e && not (r.sends front e)) (between r.at (break_at r es front low high) high es) ≡ false)
break_within r es front low high room h =
    after-last r.at (λ e. is_kept r e && not (r.sends front e)) low high 0 es room.ascends h (break_at r es front low high) refl

pub section_sent : {E K : Type 0} (r : Room E K) (es : List E) (after : Bool) (limit front low high : ℕ) → IsRoom r es → low ≤ high
    → Sent r es front low high (cut r es front (window after limit low high)) (section r es front (window after limit low high))
    (is_limited r es front (window after limit low high))
section_sent r es true limit front low high room h =
    sent_from r es limit front low low high (cut r es front (window true limit low high))
    (section r es front (window true limit low high)) room (omega arith) h refl refl
section_sent r es false limit front low high room h =
    let facts = break_within r es front low high room h in
    sent_from r es limit front low (break_at r es front low high) high (cut r es front (window false limit low high))
    (section r es front (window false limit low high)) room facts.0 facts.1 refl refl

-- with the state before the timeline, each kept event above the cut may be sent
pub no_break : {E K : Type 0} (r : Room E K) (es : List E) (limit front low high : ℕ) → IsRoom r es → low ≤ high
    → AllByRecursion (λ e. is_kept r e ≡ true → r.sends front e ≡ true) (between r.at (cut r es front (window false limit low high)) high es)
no_break r es limit front low high room h =
    let b : ℕ = break_at r es front low high in
    let q : ℕ = cut r es front (window false limit low high) in
    let facts = break_within r es front low high room h in
    let sent : Sent r es front b high q (section r es front (window false limit low high)) _ =
    sent_from r es limit front b b high q (section r es front (window false limit low high)) room (omega arith) facts.1 refl refl in
    let inner : between r.at q high (between r.at b high es) ≡ between r.at q high es = between-inner r.at q high b high es sent.low_q (omega arith) in
    let none : list_any (λ e. is_kept r e && not (r.sends front e)) (between r.at q high es) ≡ false =
    ap (list_any (λ e. is_kept r e && not (r.sends front e))) (sym inner)
    ∙ list_any-filter (λ e. is_kept r e && not (r.sends front e)) (λ e. nat_lt q (r.at e) && nat_le (r.at e) high) (between r.at b high es) facts.2 in
    AllByRecursion-weaker (λ e. (is_kept r e && not (r.sends front e)) ≡ false) (λ e. is_kept r e ≡ true → r.sends front e ≡ true)
    (λ e n k. sends_from (is_kept r e) (r.sends front e) n k) (between r.at q high es) (AllByRecursion-none (λ e. is_kept r e
    && not (r.sends front e)) (between r.at q high es) none) where
      sends_from : (a b : Bool) → (a && not b) ≡ false → a ≡ true → b ≡ true
      sends_from true true n k = refl
      sends_from true false n k = absurd (true≢false n)
      sends_from false b n k = absurd (false≢true k)

pub chunk_sent : {E K : Type 0} (r : Room E K) (es : List E) (limit front low high : ℕ) → IsRoom r es → low ≤ high
    → Sent r es front low high (before_first r.at high (chunk r es limit front low high)) (chunk r es limit front low high)
    (nat_lt (length (chunk r es limit front low high)) (length (sendable r es front low high)))
chunk_sent r es limit front low high room h =
    sent_from r es limit front low low high (before_first r.at high (chunk r es limit front low high))
    (chunk r es limit front low high) room (omega arith) h refl refl

-- what is sent of a window, as it is shown: in order, within the window, at the picture's positions
pub shown_positions : {E K : Type 0} (r : Room E K) (es : List E) (front : ℕ) (xs : List E) → IsRoom r es → map r.at (map (shown r es front) xs) ≡ map r.at xs
shown_positions r es front xs room = map-map r.at (shown r es front) xs ∙ map-same (λ e. r.at (shown r es front e)) r.at (λ e. shown-at r es room front e) xs

pub sendable_ascends : {E K : Type 0} (r : Room E K) (es : List E) (front low high : ℕ) → IsRoom r es → Ascends r.at low (sendable r es front low high)
sendable_ascends r es front low high room = Ascends-filter r.at low (r.sends front) (between r.at low high es) (Ascends-between r.at 0 low high es room.ascends)

pub sendable_within : {E K : Type 0} (r : Room E K) (es : List E) (front low high : ℕ) → AllByRecursion (λ e. r.at e ≤ high) (sendable r es front low high)
sendable_within r es front low high =
    AllByRecursion-filter (λ e. r.at e ≤ high) (r.sends front) (between r.at low high es)
    (AllByRecursion-weaker (λ e. (low < r.at e)
    × (r.at e ≤ high)) (λ e. r.at e ≤ high) (λ e h. h.1) (between r.at low high es) (between-within r.at low high es))

pub shown_ascends : {E K : Type 0} (r : Room E K) (es : List E) (front low : ℕ) (xs : List E) → IsRoom r es
    → Ascends r.at low xs → Ascends r.at low (map (shown r es front) xs)
shown_ascends r es front low xs room up = Ascends-map r.at r.at (shown r es front) (λ e. shown-at r es room front e) low xs up

pub shown_within : {E K : Type 0} (r : Room E K) (es : List E) (front high : ℕ) (xs : List E) → IsRoom r es → AllByRecursion (λ e. r.at e ≤ high) xs
    → AllByRecursion (λ e. r.at e ≤ high) (map (shown r es front) xs)
shown_within r es front high xs room upto =
    AllByRecursion-map (λ e. r.at e ≤ high) (shown r es front) xs
    (AllByRecursion-weaker (λ e. r.at e ≤ high) (λ e. r.at (shown r es front e) ≤ high)
    (λ e h. subst (λ x. x ≤ high) (sym (shown-at r es room front e)) h) xs upto)

none_more : {A : Type 0} (xs ys zs sent : List A) → zs ≡ xs ++ ys → sent ≡ ys → xs ≡ [] → nat_lt (length sent) (length zs) ≡ false
none_more xs ys zs sent e f none = le-ltb (length sent) (length zs) (omega (arith, ap length e, ap length f, length-append xs ys, ap length none))

pub section_is_window : {E K : Type 0} → SectionIsWindow E K
section_is_window r es room after limit front low high q h is =
    let facts : Sent r es front low high (cut r es front (window after limit low high)) (section r es front (window after limit low high))
    (is_limited r es front (window after limit low high)) =
    section_sent r es after limit front low high room h in
    subst (λ x. (section r es front (window after limit low high) ≡ sendable r es front x high) × (low ≤ x) × (x ≤ high)
    × ((is_limited r es front (window after limit low high) ≡ false) ↔ (sendable r es front low x ≡ []))) (sym is) (
      facts.is,
      facts.low_q,
      facts.q_high,
      (
        facts.none,
        none_more (sendable r es front low (cut r es front (window after limit low high)))
            (sendable r es front (cut r es front (window after limit low high)) high) (sendable r es front low high)
            (section r es front (window after limit low high))
            (sendable-split r es front low (cut r es front (window after limit low high)) high room facts.low_q facts.q_high) facts.is,
      ),
    )

pub sent_is_visible : {E K : Type 0} → SentIsVisible E K
sent_is_visible r es after limit front low high =
    let from : ℕ = cond after low (break_at r es front low high) in
    AllByRecursion-drop (λ e. r.sends front e
    ≡ true) (length (sendable r es front from high) - limit) (sendable r es front from high)
    (AllByRecursion-passed (r.sends front) (between r.at from high es))
