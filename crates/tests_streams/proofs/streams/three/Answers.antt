use Rattle.std.proofs.Common.{◌≡◌, List, ◌∷◌, ◌++◌, Option, Some, option_to_list, slice_get, sym, ap, ◌∙◌}
use Rattle.tests_streams.proofs.streams.three.Goals as goal

taken : {A : Type 0} (xs ys : List A) (o : Option A) (x : A) → xs ≡ option_to_list o ++ ys → o ≡ Some x → xs ≡ x ∷ ys
taken xs ys o x e is = e ∙ ap (λ p. option_to_list p ++ ys) is

pub returns-clause-first : goal.returns-clause-first
returns-clause-first c =
    let one = taken _ _ _ _ c.next.ensures.items c.unwrap-first.ensures in
    c.requires.each 0 _ (ap (λ l. slice_get l 0) (sym (c.into_iter-pens.ensures.rest ∙ c.into_vec.ensures) ∙ one))

pub returns-clause-second : goal.returns-clause-second
returns-clause-second c =
    let one = taken _ _ _ _ c.next.ensures.items c.unwrap-first.ensures in
    let two = taken _ _ _ _ c.next-2.ensures.items c.unwrap-second.ensures in
    c.requires.each 1 _ (ap (λ l. slice_get l 1) (sym (c.into_iter-pens.ensures.rest ∙ c.into_vec.ensures) ∙ one ∙ ap (λ l. c.unwrap-first.result ∷ l) two))

pub returns-clause-third : goal.returns-clause-third
returns-clause-third c =
    let one = taken _ _ _ _ c.next.ensures.items c.unwrap-first.ensures in
    let two = taken _ _ _ _ c.next-2.ensures.items c.unwrap-second.ensures in
    let three = taken _ _ _ _ c.next-3.ensures.items c.unwrap-third.ensures in
    c.requires.each 2 _ (ap (λ l. slice_get l 2)
    (sym (c.into_iter-pens.ensures.rest ∙ c.into_vec.ensures) ∙ one ∙ ap (λ l. c.unwrap-first.result ∷ l) (two ∙ ap (λ l. c.unwrap-second.result ∷ l) three)))
