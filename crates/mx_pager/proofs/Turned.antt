-- Lists in falling order.
use Rattle.std.proofs.Common.{◌≡◌, ◌++◌, List, [], ◌∷◌, map, reverse, refl, ap, subst, sym, ◌∙◌}
use Rattle.std.proofs.lemmas.List.{map-append, reverse-append}
use Rattle.std.specs.Borrow.{Bor}
use Rattle.std.specs.List.{AllByRecursion}
use Rattle.mx_window.proofs.Each.{AllByRecursion-append}
use Rattle.mx_event.specs.declared.event.Event.{Event}
use Rattle.mx_snapshot.specs.Looks.{all_now}

turn : {A : Type 0} (x : A) (xs : List A) → reverse (x ∷ xs) ≡ reverse xs ++ x ∷ []
turn x xs = reverse-append (x ∷ []) xs

pub map_reverse : {A B : Type 0} (f : A → B) (xs : List A) → map f (reverse xs) ≡ reverse (map f xs)
map_reverse f [] = refl
map_reverse f (x ∷ xs) =
    ap (map f) (turn x xs) ∙ map-append f (reverse xs) (x ∷ []) ∙ ap (λ l. l ++ f x ∷ []) (map_reverse f xs) ∙ sym (turn (f x) (map f xs))

pub reverse_now : (xs : List (Bor Event)) → all_now (reverse xs) ≡ reverse (all_now xs)
reverse_now xs = map_reverse (λ (b : Bor Event). b.now) xs

pub reverse_each : (P : Event → Type 0) (xs : List Event) → AllByRecursion P xs → AllByRecursion P (reverse xs)
reverse_each P [] all = tt
reverse_each P (x ∷ xs) all = subst (AllByRecursion P) (sym (turn x xs)) (AllByRecursion-append P (reverse xs) (x ∷ []) (reverse_each P xs all.1) (all.0, tt))
