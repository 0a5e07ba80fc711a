-- The walk back through what the user sees of a window.
use Rattle.std.proofs.Common.{◌≡◌, ℕ, zero, suc, take, ◌<◌, ◌≤◌, ◌-◌, max, Bool, true, false, nat_lt, nat_le, ◌&&◌, List, [], ◌∷◌, ◌++◌, filter, reverse, length, refl, ap, ap₂, sym, ◌∙◌, ◌⊎◌, inl, inr, arith, append_assoc, map}
use Rattle.std.proofs.lemmas.Bool.{cases_lt, lt-ltb, le-leb, ltb-true}
use Rattle.std.proofs.lemmas.List.{map-append, reverse-append, reverse-reverse}
use Rattle.std.specs.Borrow.{Bor}
use Rattle.std.specs.List.{list_any, AllByRecursion}
use Rattle.mx_window.specs.Lasts.{last_at, last_of}
use Rattle.mx_window.specs.Windows.{Ascends, between}
use Rattle.mx_window.proofs.Each.{AllByRecursion-none}
use Rattle.mx_window.proofs.Sections.{after-last}
use Rattle.mx_event.specs.Shown.{position_of}
use Rattle.mx_event.specs.declared.event.Event.{Event}
use Rattle.mx_folding.specs.Sections.{sendable}
use Rattle.mx_folding.specs.Visible.{is_visible}
use Rattle.mx_snapshot.specs.Looks.{all_now}
use Rattle.mx_view.specs.Readings.{viewer_of}
use Rattle.mx_view.specs.Rooms.{Sieve, room_of}
use Rattle.mx_parts.proofs.Settled.{none_beyond, split}

turn : {A : Type 0} (x : A) (xs : List A) → reverse (x ∷ xs) ≡ reverse xs ++ x ∷ []
turn x xs = reverse-append (x ∷ []) xs

pub reverse_now : (xs : List (Bor Event)) → all_now (reverse xs) ≡ reverse (all_now xs)
reverse_now [] = refl
reverse_now (x ∷ xs) =
    ap all_now (turn x xs) ∙ map-append (λ (b : Bor Event). b.now) (reverse xs) (x ∷ []) ∙ ap (λ l. l ++ x.now ∷ []) (reverse_now xs) ∙ sym (turn x.now (all_now xs))

pub take_now : (n : ℕ) (xs : List (Bor Event)) → all_now (take n xs) ≡ take n (all_now xs)
take_now zero xs = refl
take_now (suc n) [] = refl
take_now (suc n) (x ∷ xs) = ap (λ l. x.now ∷ l) (take_now n xs)

unseen : (seen passes : Event → Bool) (es : List Event) → AllByRecursion (λ e. seen e ≡ false) es → filter (λ e. seen e && passes e) es ≡ []
unseen seen passes [] none = refl
unseen seen passes (e ∷ es) none = let out : seen e ≡ false = none.0 in rw out (unseen seen passes es none.1)

module _ (f : Sieve) (user : List ℕ) (es : List Event) (front : ℕ) (up : Ascends position_of 0 es) (low high : ℕ) where
  -- a stretch more
  pub further : (end last begin : ℕ) (found more : List Event) → low < end → last ≡ last_at position_of low (last_of (is_visible (viewer_of user) es front) (between position_of low end es))
      → low ≤ begin → begin ≤ max low (last - 1) → more ≡ found ++ reverse (sendable (room_of f user es) es front begin last)
      → sendable (room_of f user es) es front low end ++ reverse found ≡ sendable (room_of f user es) es front low high
      → sendable (room_of f user es) es front low begin ++ reverse more ≡ sendable (room_of f user es) es front low high
  further end last begin found more inside is least back pushed kept =
      let r = room_of f user es in
      let after = after-last position_of (is_visible (viewer_of user) es front) low end 0 es up (omega (arith, inside)) last is in
      let first : low ≤ last = after.0 in
      let stretch = sendable r es front begin last in
      let hidden : sendable r es front last end ≡ [] =
      unseen (is_visible (viewer_of user) es front) f.passes (between position_of last end es) (AllByRecursion-none (is_visible (viewer_of user) es front) (between position_of last end es) after.2) in
      let upper : sendable r es front low end ≡ sendable r es front low last =
      split r es front up low last end first after.1 ∙ ap (λ l. sendable r es front low last ++ l) hidden ∙ nothing_more (sendable r es front low last) in
      let parts : sendable r es front low last ≡ sendable r es front low begin ++ stretch = split r es front up low begin last least (omega (arith, back, first)) in
      ap (λ l. sendable r es front low begin ++ reverse l) pushed
      ∙ ap (λ l. sendable r es front low begin ++ l) (reverse-append found (reverse stretch) ∙ ap (λ l. l ++ reverse found) (reverse-reverse stretch))
      ∙ sym (append_assoc (sendable r es front low begin) stretch (reverse found))
      ∙ ap (λ l. l ++ reverse found) (sym (upper ∙ parts))
      ∙ kept where
        nothing_more : (xs : List Event) → xs ++ [] ≡ xs
        nothing_more [] = refl
        nothing_more (x ∷ xs) = ap (λ l. x ∷ l) (nothing_more xs)

  pub goes_back : (end last begin : ℕ) → low < end → last ≡ last_at position_of low (last_of (is_visible (viewer_of user) es front) (between position_of low end es))
      → begin ≤ max low (last - 1) → begin < end
  goes_back end last begin inside is back =
      let after = after-last position_of (is_visible (viewer_of user) es front) low end 0 es up (omega (arith, inside)) last is in
      let upto : last ≤ end = after.1 in
      omega (arith, inside, upto, back)

  -- where the walk ends, nothing is left or more was found
  pub walked : (end most : ℕ) (found : List Event) → (nat_lt low end && nat_le (length found) most) ≡ false
      → (sendable (room_of f user es) es front low end ≡ []) ⊎ (most < length found)
  walked end most found closed = elim (cases_lt low end) [
    | inl h ↦ elim (cases_lt most (length found)) [
      | inl k ↦ inr k
      | inr k ↦ let wrong : true ≡ false = sym (ap₂ (λ a b. a && b) (lt-ltb low end h) (le-leb (length found) most k)) ∙ closed in absurd (cc (wrong))
    ]
    | inr h ↦ inl (none_beyond (room_of f user es) es front up low end h)
  ]

pub is_inside : (low end n most : ℕ) → (nat_lt low end && nat_le n most) ≡ true → low < end
is_inside low end n most both = ltb-true low end (first (nat_lt low end) both) where
  first : (a : Bool) → (a && nat_le n most) ≡ true → a ≡ true
  first true h = refl
  first false h = absurd (cc (h))
