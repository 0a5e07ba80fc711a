-- Windows, replies and pages over a list that goes on.
use Rattle.std.proofs.Common.{◌≡◌, ℕ, ◌-◌, ◌<◌, ◌≤◌, Bool, true, false, cond, not, ◌&&◌, ◌||◌, nat_lt, nat_le, List, [], ◌∷◌, ◌++◌, map, length, filter, refl, ap, ap₂, ◌∙◌, subst, arith, append-nil}
use Rattle.std.proofs.lemmas.Bool.{and_right, lt-leb}
use Rattle.std.proofs.lemmas.List.Elements.{filter-append}
use Rattle.std.specs.List.{list_any, AllByRecursion}
use Rattle.mx_window.specs.Windows.{between, before_first}
use Rattle.mx_window.specs.Lasts.{last_of, last_at, last, current}
use Rattle.mx_window.proofs.Each.{AllByRecursion-weaker, AllByRecursion-filter, filter-same, map-same}
use Rattle.mx_window.proofs.Intervals.{between-inner, between-within}
use Rattle.mx_window.proofs.Lasts.{last_of-same}
use Rattle.mx_folding.specs.Rooms.{Room, key_is, is_state, is_kept, sets_same}
use Rattle.mx_folding.specs.Sections.{sendable, break_at, section, cut, is_limited, chunk, window}
use Rattle.mx_folding.specs.Redactions.{is_named, shown}
use Rattle.mx_folding.specs.Parts.{is_sender, state_list, state_part}
use Rattle.mx_folding.proofs.Cuts.{sendable_within}
use Rattle.mx_window.proofs.Sections.{before_first-high, AllByRecursion-drop}
use Rattle.mx_folding.specs.Longer.{judged_by, SamePart, SamePage, SameVisible}
use Rattle.mx_folding.specs.Visible.{Viewer, is_join, allows_after, is_visible}

-- a window that ends before later events is the same with them
pub between-longer : {E : Type 0} (at : E → ℕ) (low high : ℕ) (es later : List E) → AllByRecursion (λ e. high < at e) later
    → between at low high (es ++ later) ≡ between at low high es
between-longer at low high es later h =
    filter-append (λ e. nat_lt low (at e) && nat_le (at e) high) es later ∙ ap (λ l. between at low high es ++ l) (none low high later h)
    ∙ append-nil (between at low high es) where
      none : (low high : ℕ) (later : List _) → AllByRecursion (λ e. high < at e) later → between at low high later ≡ []
      none low high [] h = refl
      none low high (e ∷ later) h =
          let out : (nat_lt low (at e) && nat_le (at e) high) ≡ false = and_right (nat_lt low (at e)) (nat_le (at e) high) (lt-leb (at e) high h.0) in
          rw out (none low high later h.1)

later_above : {E : Type 0} (at : E → ℕ) (high t : ℕ) (later : List E) → high ≤ t → AllByRecursion (λ e. t < at e) later
    → AllByRecursion (λ e. high < at e) later
later_above at high t later up h = AllByRecursion-weaker (λ e. t < at e) (λ e. high < at e) (λ e k. let k' : t < at e = k in omega arith) later h

pub longer : {E : Type 0} (at : E → ℕ) (low high t : ℕ) (es later : List E) → high ≤ t → AllByRecursion (λ e. t < at e) later
    → between at low high (es ++ later) ≡ between at low high es
longer at low high t es later up h = between-longer at low high es later (later_above at high t later up h)

longer_sendable : {E K : Type 0} (r : Room E K) (sends : ℕ → E → Bool) (stayed : ℕ → ℕ → Bool) (es later : List E) (t low high : ℕ) → high ≤ t
    → AllByRecursion (λ e. t < r.at e) later → AllByRecursion (λ e. sends t e ≡ r.sends t e) (between r.at 0 t es)
    → sendable (judged_by r sends stayed) (es ++ later) t low high ≡ sendable r es t low high
longer_sendable r sends stayed es later t low high up h same =
    ap (filter (sends t)) (longer r.at low high t es later up h)
    ∙ filter-same (sends t) (r.sends t) (between r.at low high es)
    (subst (AllByRecursion (λ e. sends t e ≡ r.sends t e)) (between-inner r.at low high 0 t es (omega arith) up)
    (AllByRecursion-filter (λ e. sends t e ≡ r.sends t e) (λ e. nat_lt low (r.at e) && nat_le (r.at e) high) (between r.at 0 t es) same))

longer_break : {E K : Type 0} (r : Room E K) (sends : ℕ → E → Bool) (stayed : ℕ → ℕ → Bool) (es later : List E) (t low high : ℕ) → high ≤ t
    → AllByRecursion (λ e. t < r.at e) later → AllByRecursion (λ e. sends t e ≡ r.sends t e) (between r.at 0 t es)
    → break_at (judged_by r sends stayed) (es ++ later) t low high ≡ break_at r es t low high
longer_break r sends stayed es later t low high up h same =
    ap (last_at r.at low)
    (ap (last_of (λ e. is_kept r e && not (sends t e))) (longer r.at low high t es later up h)
    ∙ last_of-same (λ e. is_kept r e && not (sends t e)) (λ e. is_kept r e && not (r.sends t e)) (between r.at low high es)
    (AllByRecursion-weaker (λ e. sends t e ≡ r.sends t e) (λ e. (is_kept r e && not (sends t e))
    ≡ (is_kept r e && not (r.sends t e))) (λ e k. ap (λ b. is_kept r e && not b) k) (between r.at low high es)
    (subst (AllByRecursion (λ e. sends t e ≡ r.sends t e)) (between-inner r.at low high 0 t es (omega arith) up)
    (AllByRecursion-filter (λ e. sends t e ≡ r.sends t e) (λ e. nat_lt low (r.at e) && nat_le (r.at e) high) (between r.at 0 t es) same))))

longer_shown : {E K : Type 0} (r : Room E K) (sends : ℕ → E → Bool) (stayed : ℕ → ℕ → Bool) (es later : List E) (t : ℕ) (xs : List E)
    → AllByRecursion (λ e. t < r.at e) later
    → map (shown (judged_by r sends stayed) (es ++ later) t) xs ≡ map (shown r es t) xs
longer_shown r sends stayed es later t xs h =
    map-same (shown (judged_by r sends stayed) (es ++ later) t) (shown r es t)
    (λ v. ap (λ l. cond (is_named r l (r.at v)) (r.red v) v) (between-longer r.at (r.at v) t es later h)) xs

longer_state : {E K : Type 0} (r : Room E K) (sends : ℕ → E → Bool) (stayed : ℕ → ℕ → Bool) (es later : List E) (p t : ℕ) → p ≤ t
    → AllByRecursion (λ e. t < r.at e) later → state_list (judged_by r sends stayed) (es ++ later) p ≡ state_list r es p
longer_state r sends stayed es later p t up h = ap (λ l. filter (is_state r) (current (sets_same r) l)) (longer r.at 0 p t es later up h)

longer_section : {E K : Type 0} (r : Room E K) (sends : ℕ → E → Bool) (stayed : ℕ → ℕ → Bool) (es later : List E) (after : Bool) (limit f s t : ℕ)
    → s ≤ t → t ≤ f → AllByRecursion (λ e. f < r.at e) later
    → AllByRecursion (λ e. sends f e ≡ r.sends f e) (between r.at 0 f es) → section (judged_by r sends stayed) (es ++ later) f (window after limit s t)
    ≡ section r es f (window after limit s t)
longer_section r sends stayed es later after limit f s t up in' h same =
    ap (λ low. last limit (sendable (judged_by r sends stayed) (es ++ later) f (cond after s low) t)) (longer_break r sends stayed es later f s t in' h same)
    ∙ ap (last limit) (longer_sendable r sends stayed es later f (cond after s (break_at r es f s t)) t in' h same)

upto_cut : (after : Bool) (q t f : ℕ) → q ≤ t → t ≤ f → cond after t q ≤ f
upto_cut true q t f h k = k
upto_cut false q t f h k = omega arith

cut_upto : {E K : Type 0} (r : Room E K) (es : List E) (after : Bool) (limit f s t : ℕ) → cut r es f (window after limit s t) ≤ t
cut_upto r es after limit f s t =
    before_first-high r.at t (section r es f (window after limit s t))
    (AllByRecursion-drop (λ e. r.at e ≤ t) (length (sendable r es f (cond after s (break_at r es f s t)) t) - limit)
    (sendable r es f (cond after s (break_at r es f s t)) t) (sendable_within r es f (cond after s (break_at r es f s t)) t))

pub same_part : {E K : Type 0} → SamePart E K
same_part {E = E} {K = K} r sends stayed es later after limit f s t pick up in' h same =
    let r' : Room E K = judged_by r sends stayed in
    let long : List E = es ++ later in
    let q : ℕ = cut r es f (window after limit s t) in
    let sec : section r' long f (window after limit s t) ≡ section r es f (window after limit s t) =
    longer_section r sends stayed es later after limit f s t up in' h same in
    let all : sendable r' long f s t ≡ sendable r es f s t = longer_sendable r sends stayed es later f s t in' h same in
    let state : state_part r' long (pick (section r' long f (window after limit s t)))
    (cond after t (before_first r.at t (section r' long f (window after limit s t))))
    ≡ state_part r es (pick (section r es f (window after limit s t))) (cond after t q) =
    ap (λ x. state_part r' long (pick x) (cond after t (before_first r.at t x))) sec
    ∙ ap (λ l. filter (pick (section r es f (window after limit s t))) (filter (is_kept r) l))
    (longer_state r sends stayed es later (cond after t q) f (upto_cut after q t f (cut_upto r es after limit f s t) in') h) in
    let more : is_limited r' long f (window after limit s t) ≡ is_limited r es f (window after limit s t) =
    ap₂ (λ (a b : List E). nat_lt (length a) (length b)) sec all in
    let shown_state =
    longer_shown r sends stayed es later f
    (state_part r' long (pick (section r' long f (window after limit s t)))
    (cond after t (before_first r.at t (section r' long f (window after limit s t))))) h ∙ ap (map (shown r es f)) state in
    let shown_sent = longer_shown r sends stayed es later f (section r' long f (window after limit s t)) h ∙ ap (map (shown r es f)) sec in
    λ i. record { limited = more i; cut = before_first r.at t (sec i); state = shown_state i; sent = shown_sent i }

pub same_page : {E K : Type 0} → SamePage E K
same_page {E = E} {K = K} r sends stayed es later limit e gap up le in' h same =
    let low : ℕ = gap.lower in
    let high : ℕ = gap.upper in
    let gap_front : ℕ = gap.front in
    let r' : Room E K = judged_by r sends stayed in
    let long : List E = es ++ later in
    let all : sendable r' long e low high ≡ sendable r es e low high = longer_sendable r sends stayed es later e low high in' h same in
    let xs : chunk r' long limit e low high ≡ chunk r es limit e low high = ap (last limit) all in
    let wanted : List E → E → Bool = λ x v. key_is r.member (r.key v) && key_is (is_sender r x) (r.key v) in
    let members : filter (wanted (chunk r' long limit e low high)) (state_list r' long gap_front)
    ≡ filter (wanted (chunk r es limit e low high)) (state_list r es gap_front) =
    ap₂ (λ x l. filter (wanted x) l) xs (longer_state r sends stayed es later gap_front e up h) in
    let shown_members =
    longer_shown r sends stayed es later e (filter (wanted (chunk r' long limit e low high)) (state_list r' long gap_front)) h
    ∙ ap (map (shown r es e)) members in
    let shown_sent = longer_shown r sends stayed es later e (chunk r' long limit e low high) h ∙ ap (map (shown r es e)) xs in
    λ i. record {
      more = nat_lt (length (xs i)) (length (all i));
      end = before_first r.at high
          (xs i);
      members = cond r.lazy (shown_members i) [];
      sent = shown_sent i;
    }

-- what is visible at t is the same over a list with events after t
same_visible : {E : Type 0} (v : Viewer E) (es later : List E) (t : ℕ) → AllByRecursion (λ e. t < v.at e) later → (e : E)
    → v.at e ≤ t → is_visible v (es ++ later) t e ≡ is_visible v es t e
same_visible v es later t h e upto =
    let p : ℕ = v.at e in
    let seen : List _ → List _ → List _ → Bool = λ after here before.
    allows_after v (list_any (λ d. v.is_own d && is_join (v.membership d)) after) here
    || ((v.is_own e || v.is_setting e) && allows_after v (list_any (λ d. v.is_own d && is_join (v.membership d)) after) before) in
    ap (λ l. seen l (between v.at 0 p (es ++ later)) (between v.at 0 (p - 1) (es ++ later))) (longer v.at p t t es later (omega arith) h)
    ∙ ap₂ (λ a b. seen (between v.at p t es) a b) (longer v.at 0 p t es later upto h) (longer v.at 0 (p - 1) t es later (omega arith) h)

pub same_seen : {E : Type 0} → SameVisible E
same_seen v es later t h =
    AllByRecursion-weaker (λ e. (0 < v.at e) × (v.at e ≤ t)) (λ e. is_visible v (es ++ later) t e
    ≡ is_visible v es t e) (λ e in'. same_visible v es later t h e in'.1) (between v.at 0 t es) (between-within v.at 0 t es)
