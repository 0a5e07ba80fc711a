-- Members put one after the other.
use Rattle.std.proofs.Common.{◌≡◌, List, [], ◌∷◌, ◌++◌, ap, ◌∙◌}

pub two : {M : Type 0} (a b : M) (m0 m1 m2 : List M) → m0 ≡ [] → m1 ≡ m0 ++ a ∷ [] → m2 ≡ m1 ++ b ∷ [] → m2 ≡ a ∷ b ∷ []
two a b m0 m1 m2 e0 e1 e2 = e2 ∙ ap (λ l. l ++ b ∷ []) (e1 ∙ ap (λ l. l ++ a ∷ []) e0)

pub three : {M : Type 0} (a b c : M) (m0 m1 m2 m3 : List M) → m0 ≡ [] → m1 ≡ m0 ++ a ∷ [] → m2 ≡ m1 ++ b ∷ [] → m3 ≡ m2 ++ c ∷ [] → m3 ≡ a ∷ b ∷ c ∷ []
three a b c m0 m1 m2 m3 e0 e1 e2 e3 = e3 ∙ ap (λ l. l ++ c ∷ []) (two a b m0 m1 m2 e0 e1 e2)

pub four : {M : Type 0} (a b c d : M) (m0 m1 m2 m3 m4 : List M) → m0 ≡ [] → m1 ≡ m0 ++ a ∷ [] → m2 ≡ m1 ++ b ∷ [] → m3 ≡ m2 ++ c ∷ [] → m4 ≡ m3 ++ d ∷ []
    → m4 ≡ a ∷ b ∷ c ∷ d ∷ []
four a b c d m0 m1 m2 m3 m4 e0 e1 e2 e3 e4 = e4 ∙ ap (λ l. l ++ d ∷ []) (three a b c m0 m1 m2 m3 e0 e1 e2 e3)

pub three_more : {M : Type 0} (before : List M) (a b c : M) (m0 m1 m2 m3 : List M) → m0 ≡ before → m1 ≡ m0 ++ a ∷ [] → m2 ≡ m1 ++ b ∷ [] → m3 ≡ m2 ++ c ∷ []
    → m3 ≡ ((before ++ a ∷ []) ++ b ∷ []) ++ c ∷ []
three_more before a b c m0 m1 m2 m3 e0 e1 e2 e3 = e3 ∙ ap (λ l. l ++ c ∷ []) (e2 ∙ ap (λ l. l ++ b ∷ []) (e1 ∙ ap (λ l. l ++ a ∷ []) e0))
