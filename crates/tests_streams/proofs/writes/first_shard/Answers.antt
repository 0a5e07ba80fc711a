use Rattle.std.proofs.Common.{◌≡◌, List, ◌++◌, Option, Some, option_to_list, length, slice_get, sym, ap, ◌∙◌}
use Rattle.mx_front.specs.Shown.{place_of_pen}
use Rattle.tests_streams.proofs.writes.first_shard.Goals as goal

taken : {A : Type 0} (xs ys : List A) (o : Option A) (x : A) → xs ≡ option_to_list o ++ ys → o ≡ Some x → slice_get xs 0 ≡ Some x
taken xs ys o x e is = ap (λ l. slice_get l 0) (e ∙ ap (λ p. option_to_list p ++ ys) is)

pub shard-requires-clause-pen : goal.shard-requires-clause-pen
shard-requires-clause-pen c =
    let new = c.requires.each 0 _ (taken _ _ _ _ (sym (c.into_iter.ensures.rest ∙ c.into_vec.ensures) ∙ c.next.ensures.items) c.unwrap-pen.ensures) in
    (new.writer, ap (λ v. v.block) new.knows)

pub shard-requires-clause-folds : goal.shard-requires-clause-folds
shard-requires-clause-folds c =
    let new = c.requires.each 0 _ (taken _ _ _ _ (sym (c.into_iter.ensures.rest ∙ c.into_vec.ensures) ∙ c.next.ensures.items) c.unwrap-pen.ensures) in
    (c.in_ok-numbers.ensures.0, c.in_ok-numbers.ensures.1 ∙ sym (ap (λ v. v.own) new.knows))

pub shard-requires-clause-lane : goal.shard-requires-clause-lane
shard-requires-clause-lane c =
    let new = c.requires.each 0 _ (taken _ _ _ _ (sym (c.into_iter.ensures.rest ∙ c.into_vec.ensures) ∙ c.next.ensures.items) c.unwrap-pen.ensures) in
    sym (ap (λ v. length v.own) new.knows)

pub returns : goal.returns
returns c =
    let new = c.requires.each 0 _ (taken _ _ _ _ (sym (c.into_iter.ensures.rest ∙ c.into_vec.ensures) ∙ c.next.ensures.items) c.unwrap-pen.ensures) in
    ap place_of_pen c.shard.ensures.2 ∙ new.stream
