-- What a seat's right to store says, before and after a step.
use Rattle.std.proofs.Common.{◌≡◌, ◌≢◌, ℕ, ◌≤◌, true, List, Option, Some, None, length, length-append, leb, refl, sym, ap, ◌∙◌, subst, inl, inr, arith, le-leb}
use Rattle.std.proofs.lemmas.Bool.{cases_Bool, leb-true, false≢true}
use Rattle.std.proofs.lemmas.Option.{none-some, same_Some}
use Rattle.mx_core.specs.declared.history.Stored.{Stored}
use Rattle.mx_core.specs.History.{Begins}
use Rattle.mx_front.specs.declared.view.Right.{Right}
use Rattle.mx_front.specs.declared.view.Right.TheVariants.{Nothing, Shared, Alone}
use Rattle.mx_front.specs.Told.{can_store, joined, longer, shared}
use Rattle.mx_front.specs.World.{Core, Holds}
use Rattle.mx_front.proofs.Worlds.{no_rest}

-- of two beginnings of a list the one that is all of it is the longer
module _ {A : Type 0} where
  pub longer_whole : (xs ys h : List A) → xs ≡ h → Begins ys h → longer xs ys ≡ xs
  longer_whole xs ys h is b = rw (le-leb (length ys) (length xs) (omega (arith, ap length is, ap length b.1, length-append ys b.0))) refl

  pub longer_second : (xs ys h : List A) → Begins xs h → ys ≡ h → longer xs ys ≡ h
  longer_second xs ys h b is = elim (cases_Bool (leb (length ys) (length xs))) [
    | inl le ↦
        let up : length ys ≤ length xs = leb-true (length ys) (length xs) le in
        rw le (sym (b.1 ∙ no_rest xs b.0 (omega (arith, up, ap length is, ap length b.1, length-append xs b.0))))
    | inr not ↦ rw not is
  ]

-- the seat that alone may store, where such a seat gives its right away
abbrev pub alone_after : Right → Option ℕ → Option ℕ → Option ℕ
alone_after Nothing new old = old
alone_after Shared new old = old
alone_after Alone new old = new

-- ---- the same seat

module _ {I : Type 0} where
  pub holds_on : (w to : Core I) (j : ℕ) (seen : List (Stored I)) (r : Right) → to.alone ≡ w.alone → to.state.history ≡ w.state.history → Holds w j seen r → Holds to j seen r
  holds_on w to j seen Nothing a h p = tt
  holds_on w to j seen Shared a h p = a ∙ p
  holds_on w to j seen Alone a h p = (a ∙ p.0, p.1 ∙ sym h)

  -- which has seen all of the history then
  pub holds_all : (w to : Core I) (j : ℕ) (seen all : List (Stored I)) (r : Right) → to.alone ≡ w.alone → all ≡ to.state.history → Holds w j seen r → Holds to j all r
  holds_all w to j seen all Nothing a e p = tt
  holds_all w to j seen all Shared a e p = a ∙ p
  holds_all w to j seen all Alone a e p = (a ∙ p.0, e)

  pub alone_sees : (w : Core I) (j : ℕ) (seen : List (Stored I)) (r : Right) → r ≡ Alone → Holds w j seen r → seen ≡ w.state.history
  alone_sees w j seen r is p = (subst (Holds w j seen) is p).1

  pub alone_at : (w : Core I) (j : ℕ) (seen : List (Stored I)) (r : Right) → r ≡ Alone → Holds w j seen r → w.alone ≡ Some j
  alone_at w j seen r is p = (subst (Holds w j seen) is p).0

  -- ---- another seat

  -- where one seat alone may store, no other may
  pub none_else : (w : Core I) (i j : ℕ) (seen : List (Stored I)) (r : Right) → w.alone ≡ Some i → i ≢ j → Holds w j seen r → r ≡ Nothing
  none_else w i j seen Nothing a ne p = refl
  none_else w i j seen Shared a ne p = absurd (none-some i (sym p ∙ a))
  none_else w i j seen Alone a ne p = absurd (ne (same_Some i j (sym a ∙ p.0)))

  -- where a seat may store, what another's right says holds of any history
  pub holds_else : (w to : Core I) (id j : ℕ) (mine seen : List (Stored I)) (m r : Right) → j ≢ id → can_store m ≡ true → to.alone ≡ w.alone → Holds w id mine m → Holds w j seen r → Holds to j seen r
  holds_else w to id j mine seen m Nothing ne can a p q = tt
  holds_else w to id j mine seen m Shared ne can a p q = a ∙ q
  holds_else w to id j mine seen Nothing Alone ne can a p q = absurd (false≢true can)
  holds_else w to id j mine seen Shared Alone ne can a p q = absurd (none-some j (sym p ∙ q.0))
  holds_else w to id j mine seen Alone Alone ne can a p q = absurd (ne (same_Some j id (sym q.0 ∙ p.0)))

  -- ---- a right that is shared, lent or joined to another

  abbrev pub given : Core I → Right → Option ℕ → Core I
  given w r new = record w { alone = alone_after r new w.alone }

  -- what another seat's right says
  pub holds_other : (w : Core I) (id j : ℕ) (new : Option ℕ) (mine seen : List (Stored I)) (r q : Right) → j ≢ id → Holds w id mine r → Holds w j seen q → Holds (given w r new) j seen q
  holds_other w id j new mine seen r Nothing ne p h = tt
  holds_other w id j new mine seen Nothing Shared ne p h = h
  holds_other w id j new mine seen Shared Shared ne p h = h
  holds_other w id j new mine seen Alone Shared ne p h = absurd (none-some id (sym h ∙ p.0))
  holds_other w id j new mine seen Nothing Alone ne p h = h
  holds_other w id j new mine seen Shared Alone ne p h = h
  holds_other w id j new mine seen Alone Alone ne p h = absurd (ne (same_Some j id (sym h.0 ∙ p.0)))

  pub holds_shared : (w : Core I) (id j : ℕ) (seen : List (Stored I)) (r : Right) → Holds w id seen r → Holds (given w r None) j seen (shared r)
  holds_shared w id j seen Nothing p = tt
  holds_shared w id j seen Shared p = p
  holds_shared w id j seen Alone p = refl

  pub holds_lent : (w : Core I) (id j : ℕ) (seen : List (Stored I)) (r : Right) → Holds w id seen r → Holds (given w r (Some j)) j seen r
  holds_lent w id j seen Nothing p = tt
  holds_lent w id j seen Shared p = p
  holds_lent w id j seen Alone p = (refl, p.1)

  pub holds_joined : (w : Core I) (id other : ℕ) (xs ys : List (Stored I)) (r q : Right) → other ≢ id → Begins xs w.state.history → Begins ys w.state.history
      → Holds w id xs r → Holds w other ys q → Holds (given w q (Some id)) id (longer xs ys) (joined r q)
  holds_joined w id other xs ys Nothing Nothing ne a b p h = tt
  holds_joined w id other xs ys Shared Nothing ne a b p h = p
  holds_joined w id other xs ys Alone Nothing ne a b p h = (p.0, longer_whole xs ys w.state.history p.1 b ∙ p.1)
  holds_joined w id other xs ys Nothing Shared ne a b p h = h
  holds_joined w id other xs ys Shared Shared ne a b p h = h
  holds_joined w id other xs ys Alone Shared ne a b p h = absurd (none-some id (sym h ∙ p.0))
  holds_joined w id other xs ys Nothing Alone ne a b p h = (refl, longer_second xs ys w.state.history a h.1)
  holds_joined w id other xs ys Shared Alone ne a b p h = absurd (none-some other (sym p ∙ h.0))
  holds_joined w id other xs ys Alone Alone ne a b p h = absurd (ne (same_Some other id (sym h.0 ∙ p.0)))

-- ---- the rights of a pen and of its pass

pub joined_nothing : (r : Right) → joined r Nothing ≡ r
joined_nothing Nothing = refl
joined_nothing Shared = refl
joined_nothing Alone = refl

-- one that may store still may after a join, and so may two that share a right
pub joined_stores : (r q : Right) → can_store r ≡ true → can_store (joined r q) ≡ true
joined_stores Nothing q e = absurd (false≢true e)
joined_stores Shared q e = refl
joined_stores Alone q e = refl

pub shared_stores : (r : Right) → can_store r ≡ true → can_store (shared r) ≡ true
shared_stores Nothing e = absurd (false≢true e)
shared_stores Shared e = refl
shared_stores Alone e = refl
