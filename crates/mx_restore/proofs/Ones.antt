-- The only item of a list.
use Rattle.std.proofs.Common.{◌≡◌, ℕ, ◌==◌, true, List, [], ◌∷◌, ◌++◌, length, sym, ap, ◌∙◌}
use Rattle.std.proofs.lemmas.Bool.{eqb-true}
use Rattle.std.proofs.lemmas.List.{nil_from_length}

pub only_one : {A : Type 0} (xs before : List A) (x : A) (count : ℕ) → xs ≡ before ++ x ∷ [] → count ≡ length before → true ≡ (count == 0) → xs ≡ x ∷ []
only_one xs before x count is len none = is ∙ ap (λ l. l ++ x ∷ []) (nil_from_length before (sym len ∙ eqb-true count 0 (sym none)))
