-- Lists to whose ends values are pushed, the last by a call that may fail.
use Rattle.std.proofs.Common.{◌≡◌, List, [], ◌∷◌, ◌++◌, Result, OnOk, ap, ◌∙◌, append_assoc}
use Rattle.std.proofs.lemmas.Result.{IfOk-weaker}

module _ {A B E : Type 0} (r : Result B E) (old : List A) (a b : A) where
  pub pushed_two : (ms ns : List A) → ms ≡ old ++ a ∷ [] → OnOk r (ns ≡ ms ++ b ∷ []) → OnOk r (ns ≡ old ++ a ∷ b ∷ [])
  pushed_two ms ns first = IfOk-weaker r _ _ (λ done last. last ∙ ap (λ l. l ++ b ∷ []) first ∙ append_assoc old (a ∷ []) (b ∷ []))

  pub pushed_three : (c : A) (ms ns os : List A) → ms ≡ old ++ a ∷ [] → ns ≡ ms ++ b ∷ [] → OnOk r (os ≡ ns ++ c ∷ []) → OnOk r (os ≡ old ++ a ∷ b ∷ c ∷ [])
  pushed_three c ms ns os first second = IfOk-weaker r _ _ (λ done last.
      last ∙ ap (λ l. l ++ c ∷ []) (second ∙ ap (λ l. l ++ b ∷ []) first ∙ append_assoc old (a ∷ []) (b ∷ [])) ∙ append_assoc old (a ∷ b ∷ []) (c ∷ []))
