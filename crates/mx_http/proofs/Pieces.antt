-- A list, from one item on.
use Rattle.std.proofs.Common.{◌≡◌, ℕ, ◌+◌, ◌<◌, ◌≤◌, List, [], ◌∷◌, ◌++◌, drop, length, get_or, ap, sym, ◌∙◌, add-one, suc}
use Rattle.std.specs.Borrow.{Bor}
use Rattle.std.specs.List.{flat_map}
use Rattle.std.proofs.Math.Seq.{drop-cons}
use Rattle.std.proofs.lemmas.List.{drop_all}

-- the next item of a list
pub next_item : {X : Type 0} (xs : List X) (i : ℕ) (x : X) → i < length xs → x ≡ get_or xs i x → drop i xs ≡ x ∷ drop (i + 1) xs
next_item xs i x below is = drop-cons xs i x below ∙ ap (λ y. y ∷ drop (suc i) xs) (sym is) ∙ ap (λ j. x ∷ drop j xs) (sym (add-one i))

-- the bytes of pieces from one on
abbrev pub bytes_from : ℕ → List (Bor (List ℕ)) → List ℕ
bytes_from i pieces = flat_map (λ p. p.now) (drop i pieces)

pub pieces_left : (pieces : List (Bor (List ℕ))) (i : ℕ) (d : Bor (List ℕ)) → i < length pieces → bytes_from i pieces ≡ (get_or pieces i d).now ++ bytes_from (i + 1) pieces
pieces_left pieces i d below = ap (flat_map (λ q. q.now)) (drop-cons pieces i d below ∙ ap (λ j. get_or pieces i d ∷ drop j pieces) (sym (add-one i)))

pub pieces_end : (pieces : List (Bor (List ℕ))) (i : ℕ) → length pieces ≤ i → bytes_from i pieces ≡ []
pieces_end pieces i past = ap (flat_map (λ q. q.now)) (drop_all i pieces past)
