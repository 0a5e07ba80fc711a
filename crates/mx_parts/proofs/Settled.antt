-- The section of a window, by the last of its events that may be sent and the last break among them.
use Rattle.std.proofs.Common.{◌≡◌, ℕ, ◌+◌, ◌-◌, ◌<◌, ◌≤◌, Bool, true, false, cond, not, nat_lt, nat_le, ◌&&◌, ◌||◌, List, [], ◌∷◌, ◌++◌, filter, drop, take, reverse, length, Option, Some, None, refl, ap, ap₂, sym, subst, ◌∙◌, ◌⊎◌, inl, inr, arith}
use Rattle.std.proofs.lemmas.Bool.{cases_lt, lt-ltb, le-ltb, le-leb}
use Rattle.std.proofs.Math.Seq.{drop-append-add}
use Rattle.std.proofs.lemmas.List.{length-drop, length-append, length-reverse, length-take-le, reverse-append, take-append-drop, take_all}
use Rattle.std.proofs.lemmas.List.Elements.{filter-append}
use Rattle.std.specs.Option.{option_or}
use Rattle.mx_window.specs.Windows.{Ascends, before_first, between}
use Rattle.mx_window.specs.Lasts.{last, last_at, last_of}
use Rattle.mx_window.proofs.Each.{AllByRecursion-weaker, filter-same, filter-swap}
use Rattle.mx_window.proofs.Intervals.{between-empty, between-inner, between-split, between-within}
use Rattle.mx_window.proofs.Lasts.{last_of-some, last_of-split}
use Rattle.mx_window.proofs.Sections.{last-between}
use Rattle.mx_folding.specs.Rooms.{Room, is_kept}
use Rattle.mx_folding.specs.Sections.{sendable, break_at, section, is_limited, window}

-- the last few of two lists, where the second has as many
last-behind : {A : Type 0} (n : ℕ) (xs ys : List A) → n ≤ length ys → last n (xs ++ ys) ≡ last n ys
last-behind n xs ys h =
    ap (λ k. drop k (xs ++ ys)) (ap (λ m. m - n) (length-append xs ys) ∙ (let a : (length xs + length ys) - n ≡ length xs + (length ys - n) = omega (arith, h) in a))
    ∙ drop-append-add xs ys (length ys - n)

last-all : {A : Type 0} (n : ℕ) (xs : List A) → length xs ≤ n → last n xs ≡ xs
last-all n xs h = ap (λ k. drop k xs) (let a : length xs - n ≡ 0 = omega (arith, h) in a)

length-last : {A : Type 0} (n : ℕ) (xs : List A) → length (last n xs) ≡ length xs - (length xs - n)
length-last n xs = length-drop (length xs - n) xs

no_items : {A : Type 0} (xs : List A) → length xs ≡ 0 → xs ≡ []
no_items [] h = refl
no_items (x ∷ xs) h = let never : ⊥ = omega (arith, h) in absurd never

fewer : {A : Type 0} (test : A → Bool) (xs : List A) → length (filter test xs) ≤ length xs
fewer test [] = omega arith
fewer test (x ∷ xs) = by (test x) (fewer test xs) where
  by : (b : Bool) → length (filter test xs) ≤ length xs → length (cond b (x ∷ filter test xs) (filter test xs)) ≤ length (x ∷ xs)
  by true h = omega (arith, h)
  by false h = omega (arith, h)

-- the first few of a list in falling order are the last of it in order
last-reverse : {A : Type 0} (n : ℕ) (xs : List A) → reverse (take n xs) ≡ last n (reverse xs)
last-reverse n xs = elim (cases_lt (length xs) n) [
  | inl short ↦
      ap reverse (take_all n xs (omega (arith, short)))
      ∙ sym (last-all n (reverse xs) (omega (arith, short, length-reverse xs)))
  | inr long ↦
      let taken : length (reverse (take n xs)) ≡ n = length-reverse (take n xs) ∙ length-take-le n xs (omega (arith, long)) in
      sym (ap (last n) (ap reverse (sym (take-append-drop n xs)) ∙ reverse-append (take n xs) (drop n xs))
      ∙ last-behind n (reverse (drop n xs)) (reverse (take n xs)) (omega (arith, taken))
      ∙ last-all n (reverse (take n xs)) (omega (arith, taken)))
]

-- what was walked, from the end back
module _ {A : Type 0} (xs rest found : List A) (most : ℕ) (all : xs ≡ rest ++ reverse found) (ended : (rest ≡ []) ⊎ (most < length found)) where
  pub latest_is : reverse (take most found) ≡ last most xs
  latest_is = elim ended [
    | inl none ↦ last-reverse most found ∙ ap (last most) (sym (all ∙ ap (λ l. l ++ reverse found) none))
    | inr more ↦ last-reverse most found ∙ sym (ap (last most) all ∙ last-behind most rest (reverse found) (omega (arith, more, length-reverse found)))
  ]

  pub more_is : nat_lt most (length found) ≡ nat_lt (length (last most xs)) (length xs)
  more_is =
      let count : length xs ≡ length rest + length (reverse found) = ap length all ∙ length-append rest (reverse found) in
      let turned : length (reverse found) ≡ length found = length-reverse found in
      let kept = length-last most xs in
      elim ended [
        | inl none ↦
            let empty : length rest ≡ 0 = ap length none in
            elim (cases_lt most (length found)) [
              | inl h ↦ lt-ltb most (length found) h ∙ sym (lt-ltb (length (last most xs)) (length xs) (omega (arith, h, count, turned, kept, empty)))
              | inr h ↦ le-ltb most (length found) h ∙ sym (le-ltb (length (last most xs)) (length xs) (omega (arith, h, count, turned, kept, empty)))
            ]
        | inr more ↦ lt-ltb most (length found) more ∙ sym (lt-ltb (length (last most xs)) (length xs) (omega (arith, more, count, turned, kept)))
      ]

module _ {E K : Type 0} (r : Room E K) (es : List E) (front : ℕ) (up : Ascends r.at 0 es) where
  pub split : (low mid high : ℕ) → low ≤ mid → mid ≤ high → sendable r es front low high ≡ sendable r es front low mid ++ sendable r es front mid high
  split low mid high h k =
      ap (filter (r.sends front)) (between-split r.at low mid high 0 es up h k)
      ∙ filter-append (r.sends front) (between r.at low mid es) (between r.at mid high es)

  pub none_beyond : (low high : ℕ) → high ≤ low → sendable r es front low high ≡ []
  none_beyond low high h = ap (filter (r.sends front)) (between-empty r.at low high es h)

  -- those of a window's events that lie after a position are a window's
  above : (q b high : ℕ) → q ≤ b → filter (λ e. nat_lt b (r.at e)) (sendable r es front q high) ≡ sendable r es front b high
  above q b high h =
      filter-swap (λ e. nat_lt b (r.at e)) (r.sends front) (between r.at q high es)
      ∙ ap (filter (r.sends front))
      (sym (filter-same (λ e. nat_lt b (r.at e) && nat_le (r.at e) high) (λ e. nat_lt b (r.at e)) (between r.at q high es)
      (AllByRecursion-weaker (λ e. (q < r.at e) × (r.at e ≤ high)) (λ e. (nat_lt b (r.at e) && nat_le (r.at e) high) ≡ nat_lt b (r.at e))
      (λ e k. ap (λ t. nat_lt b (r.at e) && t) (le-leb (r.at e) high k.1) ∙ and_yes (nat_lt b (r.at e))) (between r.at q high es) (between-within r.at q high es)))
      ∙ between-inner r.at b high q high es h (omega arith)) where
        and_yes : (t : Bool) → (t && true) ≡ t
        and_yes true = refl
        and_yes false = refl

  breaks : E → Bool
  breaks e = is_kept r e && not (r.sends front e)

  module _ (limit low high : ℕ) where
    abbrev all : List E
    all = sendable r es front low high

    abbrev kept : List E
    kept = last limit (sendable r es front low high)

    -- of the last few of a window's events, those after the last break among them are its section
    module _ (q : ℕ) (inside : low ≤ high) (is : q ≡ before_first r.at high (last limit (sendable r es front low high))) where
      bounds : (kept ≡ sendable r es front q high) × (low ≤ q) × (q ≤ high)
      bounds = last-between r.at (r.sends front) limit low high 0 es up inside q is

      few : length kept ≤ limit
      few = let n = length-last limit (sendable r es front low high) in omega (arith, n)

      by_break : (o : Option E) → last_of (λ e. is_kept r e && not (r.sends front e)) (between r.at q high es) ≡ o
          → (p : Option E) → last_of (λ e. is_kept r e && not (r.sends front e)) (between r.at low q es) ≡ p
          → filter (λ e. nat_lt (break_at r es front q high) (r.at e)) kept ≡ section r es front (window false limit low high)
      by_break (Some d) found p was =
          let within = (last_of-some (λ e. (q < r.at e) × (r.at e ≤ high)) (λ e. is_kept r e && not (r.sends front e)) (between r.at q high es) d (between-within r.at q high es) found).1 in
          let after : q < r.at d = within.0 in
          let upto : r.at d ≤ high = within.1 in
          let parts = ap length (bounds.0 ∙ split q (r.at d) high (omega (arith, after)) upto) ∙ length-append (sendable r es front q (r.at d)) (sendable r es front (r.at d) high) in
          let short = few in
          ap (λ n. filter (λ e. nat_lt n (r.at e)) kept) (ap (last_at r.at q) found)
          ∙ ap (filter (λ e. nat_lt (r.at d) (r.at e))) bounds.0
          ∙ above q (r.at d) high (omega (arith, after))
          ∙ sym (last-all limit (sendable r es front (r.at d) high) (omega (arith, short, parts)))
          ∙ ap (λ n. last limit (sendable r es front n high))
          (sym (ap (last_at r.at low) (last_of-split r.at (λ e. is_kept r e && not (r.sends front e)) low q high 0 es up bounds.1 bounds.2
          ∙ ap (λ o. option_or o (last_of (λ e. is_kept r e && not (r.sends front e)) (between r.at low q es))) found)))
      by_break None found p was =
          ap (λ n. filter (λ e. nat_lt n (r.at e)) kept) (ap (last_at r.at q) found)
          ∙ ap (filter (λ e. nat_lt q (r.at e))) bounds.0
          ∙ above q q high (omega arith)
          ∙ earlier (last_at r.at low p) (lies p was).0 (lies p was).1
          ∙ ap (λ n. last limit (sendable r es front n high))
          (sym (ap (last_at r.at low) (last_of-split r.at (λ e. is_kept r e && not (r.sends front e)) low q high 0 es up bounds.1 bounds.2 ∙ ap₂ option_or found was))) where
            lies : (p : Option E) → last_of (λ e. is_kept r e && not (r.sends front e)) (between r.at low q es) ≡ p → (low ≤ last_at r.at low p) × (last_at r.at low p ≤ q)
            lies None eq = (omega arith, bounds.1)
            lies (Some e) eq =
                let k = (last_of-some (λ e. (low < r.at e) × (r.at e ≤ q)) (λ e. is_kept r e && not (r.sends front e)) (between r.at low q es) e (between-within r.at low q es) eq).1 in
                let after : low < r.at e = k.0 in
                (omega (arith, after), k.1)

            -- a break before these events cuts none of them off
            earlier : (c : ℕ) → low ≤ c → c ≤ q → sendable r es front q high ≡ last limit (sendable r es front c high)
            earlier c least most =
                let whole = split low q high bounds.1 bounds.2 in
                let part = split c q high most bounds.2 in
                let front_part = ap length (split low c q least most) ∙ length-append (sendable r es front low c) (sendable r es front c q) in
                let count = ap length whole ∙ length-append (sendable r es front low q) (sendable r es front q high) in
                let size = sym (ap length bounds.0) ∙ length-last limit (sendable r es front low high) in
                sym (ap (last limit) part ∙ elim (cases_lt (length (sendable r es front q high)) limit) [
                  | inl short ↦
                      let none : sendable r es front c q ≡ [] = no_items (sendable r es front c q) (omega (arith, short, front_part, count, size)) in
                      ap (λ l. last limit (l ++ sendable r es front q high)) none ∙ last-all limit (sendable r es front q high) (omega (arith, short))
                  | inr long ↦
                      last-behind limit (sendable r es front c q) (sendable r es front q high) (omega (arith, long))
                      ∙ last-all limit (sendable r es front q high) (omega (arith, size))
                ])

      inner : (after : Bool) → filter (λ e. nat_lt (cond after q (break_at r es front q high)) (r.at e)) kept ≡ section r es front (window after limit low high)
      inner true = ap (filter (λ e. nat_lt q (r.at e))) bounds.0 ∙ above q q high (omega arith) ∙ sym bounds.0
      inner false =
          by_break (last_of (λ e. is_kept r e && not (r.sends front e)) (between r.at q high es)) refl
          (last_of (λ e. is_kept r e && not (r.sends front e)) (between r.at low q es)) refl

    outer : (after : Bool) (b : ℕ) → high < low → filter (λ e. nat_lt b (r.at e)) kept ≡ section r es front (window after limit low high)
    outer after b h =
        let nothing : sendable r es front low high ≡ [] = none_beyond low high (omega (arith, h)) in
        ap (λ l. filter (λ e. nat_lt b (r.at e)) (last limit l)) nothing ∙ ap (filter (λ e. nat_lt b (r.at e))) (last-all limit [] (omega arith))
        ∙ sym (by_form after) where
          by_form : (a : Bool) → section r es front (window a limit low high) ≡ []
          by_form true = ap (last limit) (none_beyond low high (omega (arith, h))) ∙ last-all limit [] (omega arith)
          by_form false =
              ap (λ l. last limit (sendable r es front (last_at r.at low (last_of (λ e. is_kept r e && not (r.sends front e)) l)) high)) (between-empty r.at low high es (omega (arith, h)))
              ∙ ap (last limit) (none_beyond low high (omega (arith, h))) ∙ last-all limit [] (omega arith)

    module _ (after : Bool) (made sent : List E) (q b : ℕ) (made_is : made ≡ last limit (sendable r es front low high)) (q_is : q ≡ before_first r.at high made)
        (b_is : b ≡ cond after q (break_at r es front q high)) (sent_is : sent ≡ filter (λ e. nat_lt b (r.at e)) made) where
      pub section_is : sent ≡ section r es front (window after limit low high)
      section_is = elim (cases_lt high low) [
        | inl h ↦ sent_is ∙ ap (filter (λ e. nat_lt b (r.at e))) made_is ∙ outer after b h
        | inr h ↦
            sent_is ∙ ap₂ (λ n l. filter (λ e. nat_lt n (r.at e)) l) b_is made_is
            ∙ inner q (omega (arith, h)) (q_is ∙ ap (before_first r.at high) made_is) after
      ]

      pub limited_is : (more limited : Bool) → more ≡ nat_lt (length (last limit (sendable r es front low high))) (length (sendable r es front low high))
          → limited ≡ (more || nat_lt (length sent) (length made)) → limited ≡ is_limited r es front (window after limit low high)
      limited_is more limited more_now limited_now =
          let short : length sent ≤ length made = subst (λ n. n ≤ length made) (sym (ap length sent_is)) (fewer (λ e. nat_lt b (r.at e)) made) in
          let count : length (last limit (sendable r es front low high)) ≡ length made = ap length (sym made_is) in
          let kept_size = length-last limit (sendable r es front low high) in
          limited_now ∙ ap (λ t. t || nat_lt (length sent) (length made)) more_now
          ∙ elim (cases_lt (length (last limit (sendable r es front low high))) (length (sendable r es front low high))) [
            | inl h ↦
                ap (λ t. t || nat_lt (length sent) (length made)) (lt-ltb (length (last limit (sendable r es front low high))) (length (sendable r es front low high)) h)
                ∙ sym (lt-ltb (length sent) (length (sendable r es front low high)) (omega (arith, h, short, count)))
            | inr h ↦
                let same : length (sendable r es front low high) ≡ length made = omega (arith, h, count, kept_size) in
                ap (λ t. t || nat_lt (length sent) (length made)) (le-ltb (length (last limit (sendable r es front low high))) (length (sendable r es front low high)) h)
                ∙ ap (λ n. nat_lt (length sent) n) (sym same)
          ]
          ∙ ap (λ l. nat_lt (length l) (length (sendable r es front low high))) section_is
