-- Lists of values that are made and read, item after item.
use Rattle.std.proofs.Common.{◌≡◌, List, [], ◌∷◌, ◌++◌, map, Option, Some, None, refl, sym, ap, ◌∙◌}
use Rattle.std.proofs.lemmas.Option.{same_Some, none-some}
use Rattle.mx_records.specs.Values.{cons_read, each}

map_more : {A B : Type 0} (f : A → B) (xs : List A) (x : A) → map f (xs ++ x ∷ []) ≡ map f xs ++ f x ∷ []
map_more f [] x = refl
map_more f (y ∷ xs) x = ap (λ l. f y ∷ l) (map_more f xs x)

-- one value more is made
pub made_more : {A B : Type 0} (f : A → B) (xs ys : List A) (x : A) (made new : List B) → ys ≡ xs ++ x ∷ [] → made ≡ map f xs → new ≡ made ++ f x ∷ [] → new ≡ map f ys
made_more f xs ys x made new more before is = is ∙ ap (λ l. l ++ f x ∷ []) before ∙ sym (ap (map f) more ∙ map_more f xs x)

-- what is read of a value and of those behind it, where these are followed by one more
one_more : {B : Type 0} (o : Option B) (os next : Option (List B)) (ys : List B) (y : B) → cons_read o os ≡ Some ys → ((ws : List B) → os ≡ Some ws → next ≡ Some (ws ++ y ∷ [])) → cons_read o next ≡ Some (ys ++ y ∷ [])
one_more (Some w) (Some ws) next ys y h step = ap (cons_read (Some w)) (step ws refl) ∙ ap (λ l. Some (l ++ y ∷ [])) (same_Some (w ∷ ws) ys h)
one_more (Some w) None next ys y h step = absurd (none-some ys h)
one_more None os next ys y h step = absurd (none-some ys h)

module _ {A B : Type 0} (f : A → Option B) where
  -- one item more is read
  each_more : (xs : List A) (x : A) (ys : List B) (y : B) → each f xs ≡ Some ys → f x ≡ Some y → each f (xs ++ x ∷ []) ≡ Some (ys ++ y ∷ [])
  each_more [] x ys y before is = ap (λ o. cons_read o (Some [])) is ∙ ap (λ l. Some (l ++ y ∷ [])) (same_Some [] ys before)
  each_more (z ∷ xs) x ys y before is = one_more (f z) (each f xs) (each f (xs ++ x ∷ [])) ys y before (λ ws e. each_more xs x ws y e is)

  pub read_more : (xs all : List A) (x : A) (ys new : List B) (y : B) → all ≡ xs ++ x ∷ [] → each f xs ≡ Some ys → f x ≡ Some y → new ≡ ys ++ y ∷ [] → each f all ≡ Some new
  read_more xs all x ys new y more before is made = ap (each f) more ∙ each_more xs x ys y before is ∙ ap Some (sym made)
