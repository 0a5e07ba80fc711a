-- A walk that gathers heroes.
use Rattle.std.proofs.Common.{◌≡◌, ℕ, zero, suc, ◌<◌, ◌≤◌, ◌+◌, Bool, true, false, cond, List, [], ◌∷◌, ◌++◌, length, take, drop, map, filter, Bor, get_or, refl, ap, sym, ◌∙◌, arith, append_assoc, append-nil, length-append}
use Rattle.std.proofs.lemmas.List.{drop_more}
use Rattle.mx_event.specs.declared.event.Event.{Event}
use Rattle.mx_snapshot.specs.Looks.{all_now}
use Rattle.mx_lazy.specs.Summaries.{user_of, is_hero, one_hero}

pub take_front : {A : Type 0} (n : ℕ) (xs ys : List A) → length xs ≡ n → take n (xs ++ ys) ≡ xs
take_front zero [] ys is = refl
take_front zero (x ∷ xs) ys is = absurd (omega (arith, is))
take_front (suc n) [] ys is = absurd (omega (arith, is))
take_front (suc n) (x ∷ xs) ys is = ap (λ l. x ∷ l) (take_front n xs ys (omega (arith, is)))

drop_now_more : (xs : List (Bor Event)) (i : ℕ) (b : Bor Event) → i < length xs → b ≡ get_or xs i b → all_now (drop i xs) ≡ b.now ∷ all_now (drop (i + 1) xs)
drop_now_more xs i b low is = ap all_now (drop_more xs i b low) ∙ ap (λ (d : Bor _). d.now ∷ all_now (drop (i + 1) xs)) (sym is)

one_more : (gone : Bool) (user : List ℕ) (made : List (List ℕ)) (e : Event) (es : List Event)
    → (made ++ one_hero gone user e) ++ map user_of (filter (is_hero gone user) es) ≡ made ++ map user_of (filter (is_hero gone user) (e ∷ es))
one_more gone user made e es = either (is_hero gone user e) where
  either : (b : Bool) → (made ++ cond b (user_of e ∷ []) []) ++ map user_of (filter (is_hero gone user) es) ≡ made ++ map user_of (cond b (e ∷ filter (is_hero gone user) es) (filter (is_hero gone user) es))
  either true = append_assoc made (user_of e ∷ []) (map user_of (filter (is_hero gone user) es))
  either false = ap (λ l. l ++ map user_of (filter (is_hero gone user) es)) (append-nil made)

one_short : (gone : Bool) (user : List ℕ) (e : Event) → length (one_hero gone user e) ≤ 1
one_short gone user e = either (is_hero gone user e) where
  either : (b : Bool) → length (cond b (user_of e ∷ []) []) ≤ 1
  either true = omega arith
  either false = omega arith

pub five_more : (gone : Bool) (user : List ℕ) (made new : List (List ℕ)) (members : List (Bor Event)) (i : ℕ) (b : Bor Event) (whole : List (List ℕ))
    → length made < 5 → i < length members → b ≡ get_or members i b → new ≡ made ++ one_hero gone user b.now
    → take 5 (made ++ map user_of (filter (is_hero gone user) (all_now (drop i members)))) ≡ whole
    → (length new ≤ 5) × (take 5 (new ++ map user_of (filter (is_hero gone user) (all_now (drop (i + 1) members)))) ≡ whole)
five_more gone user made new members i b whole few low is more same =
    let short = one_short gone user b.now in
    let sum = length-append made (one_hero gone user b.now) in
    let long = ap length more in (
      omega (arith, few, short, sum, long),
      ap (λ n. take 5 (n ++ map user_of (filter (is_hero gone user) (all_now (drop (i + 1) members))))) more
          ∙ ap (take 5) (one_more gone user made b.now (all_now (drop (i + 1) members)))
          ∙ ap (λ l. take 5 (made ++ map user_of (filter (is_hero gone user) l))) (sym (drop_now_more members i b low is))
          ∙ same,
    )
