-- What is said of the events of a room, judged at a later front up to which no event of the room came.
use Rattle.std.proofs.Common.{◌≡◌, ℕ, ◌-◌, ◌≤◌, Bool, true, false, cond, not, ◌&&◌, ◌||◌, nat_lt, nat_le, List, [], ◌∷◌, length, filter, refl, ap, ap₂, sym, ◌∙◌, arith}
use Rattle.std.proofs.lemmas.Bool.{le-leb}
use Rattle.std.specs.List.{list_any, AllByRecursion}
use Rattle.mx_window.specs.Windows.{between, before_first}
use Rattle.mx_window.specs.Lasts.{current, last, last_at, last_of}
use Rattle.mx_window.proofs.Each.{AllByRecursion-every, AllByRecursion-weaker, filter-same}
use Rattle.mx_window.proofs.Lasts.{last_of-same}
use Rattle.mx_event.specs.Shown.{position_of}
use Rattle.mx_event.specs.declared.event.Event.{Event}
use Rattle.mx_folding.specs.Parts.{is_cons, state_part}
use Rattle.mx_folding.specs.Rooms.{Room, is_kept, is_state, sets_same}
use Rattle.mx_folding.specs.Sections.{Window, break_at, cut, is_limited, section, sendable, window}
use Rattle.mx_folding.specs.Visible.{Viewer, allows_after, is_join}
use Rattle.mx_view.specs.Readings.{viewer_of}
use Rattle.mx_view.specs.Rooms.{Sieve, room_of}

-- a window that reaches past all items ends anywhere
pub window_same : {E : Type 0} (at : E → ℕ) (es : List E) (t u : ℕ) → t ≤ u → AllByRecursion (λ e. at e ≤ t) es → (low : ℕ)
    → between at low t es ≡ between at low u es
window_same at es t u up within low =
    filter-same (λ e. nat_lt low (at e) && nat_le (at e) t) (λ e. nat_lt low (at e) && nat_le (at e) u) es
    (AllByRecursion-weaker (λ e. at e ≤ t) (λ e. (nat_lt low (at e) && nat_le (at e) t) ≡ (nat_lt low (at e) && nat_le (at e) u))
    (λ e h. let in' : at e ≤ t = h in ap (λ b. nat_lt low (at e) && b) (le-leb (at e) t in' ∙ sym (le-leb (at e) u (omega (arith, in', up))))) es within)

-- something of a window is said
abbrev pub says_some : {E K : Type 0} → Room E K → List E → ℕ → Window → (List E → E → Bool) → Bool
says_some r es front w pick =
    is_limited r es front w
    || (is_cons (state_part r es (pick (section r es front w)) (cond w.after w.high (cut r es front w))) || is_cons (section r es front w))

module _ {E K : Type 0} (r : Room E K) (es : List E) (s t u : ℕ) (up : t ≤ u) (within : AllByRecursion (λ e. r.at e ≤ t) es)
    (sends : (e : E) → r.sends t e ≡ r.sends u e) where
  same : (low : ℕ) → between r.at low t es ≡ between r.at low u es
  same low = window_same r.at es t u up within low

  sendable_same : (low : ℕ) → sendable r es t low t ≡ sendable r es u low u
  sendable_same low =
      ap (filter (r.sends t)) (same low)
      ∙ filter-same (r.sends t) (r.sends u) (between r.at low u es) (AllByRecursion-every (λ e. r.sends t e ≡ r.sends u e) sends (between r.at low u es))

  break_same : break_at r es t s t ≡ break_at r es u s u
  break_same =
      ap (λ l. last_at r.at s (last_of (λ e. is_kept r e && not (r.sends t e)) l)) (same s)
      ∙ ap (last_at r.at s)
      (last_of-same (λ e. is_kept r e && not (r.sends t e)) (λ e. is_kept r e && not (r.sends u e)) (between r.at s u es)
      (AllByRecursion-every (λ e. (is_kept r e && not (r.sends t e)) ≡ (is_kept r e && not (r.sends u e)))
      (λ e. ap (λ b. is_kept r e && not b) (sends e)) (between r.at s u es)))

  module _ (after : Bool) (limit : ℕ) (pick : List E → E → Bool) where
    section_same : section r es t (window after limit s t) ≡ section r es u (window after limit s u)
    section_same =
        ap (λ low. last limit (sendable r es t (cond after s low) t)) break_same
        ∙ ap (last limit) (sendable_same (cond after s (break_at r es u s u)))

    limited_same : is_limited r es t (window after limit s t) ≡ is_limited r es u (window after limit s u)
    limited_same = ap₂ (λ (a b : List E). nat_lt (length a) (length b)) section_same (sendable_same s)

    -- the window of the state that is sent before a section
    state_window : (xs : List E) (b : Bool) → between r.at 0 (cond b t (before_first r.at t xs)) es ≡ between r.at 0 (cond b u (before_first r.at u xs)) es
    state_window xs true = same 0
    state_window [] false = same 0
    state_window (x ∷ xs) false = refl

    state_same : state_part r es (pick (section r es t (window after limit s t))) (cond after t (cut r es t (window after limit s t)))
        ≡ state_part r es (pick (section r es u (window after limit s u))) (cond after u (cut r es u (window after limit s u)))
    state_same =
        ap (λ (xs : List E). state_part r es (pick xs) (cond after t (before_first r.at t xs))) section_same
        ∙ ap (λ (l : List E). filter (pick (section r es u (window after limit s u))) (filter (is_kept r) (filter (is_state r) (current (sets_same r) l))))
        (state_window (section r es u (window after limit s u)) after)

    pub says_same : says_some r es t (window after limit s t) pick ≡ says_some r es u (window after limit s u) pick
    says_same = λ i. limited_same i || (is_cons (state_same i) || is_cons (section_same i))

-- of a room for a user and a filter
module _ (f : Sieve) (user : List ℕ) (es : List Event) (t u : ℕ) (up : t ≤ u) (within : AllByRecursion (λ (e : Event). e.id.at ≤ t) es) where
  abbrev v : Viewer Event
  v = viewer_of user

  abbrev joins : List Event → Bool
  joins ds = list_any (λ d. v.is_own d && is_join (v.membership d)) ds

  sends_same : (e : Event) → (room_of f user es).sends t e ≡ (room_of f user es).sends u e
  sends_same e =
      ap (λ (ds : List Event). (allows_after v (joins ds) (between position_of 0 e.id.at es)
      || ((v.is_own e || v.is_setting e) && allows_after v (joins ds) (between position_of 0 (e.id.at - 1) es))) && f.passes e)
      (window_same position_of es t u up within e.id.at)

  pub room_says_same : (s : ℕ) (after : Bool) (limit : ℕ) (pick : List Event → Event → Bool)
      → says_some (room_of f user es) es t (window after limit s t) pick ≡ says_some (room_of f user es) es u (window after limit s u) pick
  room_says_same s after limit pick = says_same (room_of f user es) es s t u up within sends_same after limit pick
