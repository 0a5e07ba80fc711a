-- What the reader of a token answers, for tokens of any form.
use Rattle.std.proofs.Common.{◌≡◌, ◌≢◌, ℕ, ◌<◌, ◌≤◌, Bool, true, cond, ltb, List, Option, Some, None, Result, Ok, Err, refl, sym, ap, subst, ◌∙◌, arith, inl, inr, ◌⊎◌, IfOk, IsErrOf, ◌↔◌}
use Rattle.std.proofs.lemmas.Bool.{cases_lt, cases_Bool, cond-true, cond-false, lt-ltb, le-ltb, true≢false}
use mathlib.Core.Logic.{⊎_elim}
use Rattle.mx_ids.specs.Fault.{answered}
use Rattle.mx_ids.specs.declared.sync_token.TokenFault.{TokenFault}
use Rattle.mx_ids.specs.declared.sync_token.TokenFault.TheVariants.{Shape, TooLarge, Order}

-- a form of tokens: its one text, its reader, which cuts large numbers, its range, and a position that has to stand at or before a front
pub record Form (T : Type 0) : Type 1 where
  pub text : T → List ℕ
  pub read : List ℕ → Option T
  pub held : T → T
  pub InRange : T → Type 0
  pub in_range : T → Bool
  pub low : T → ℕ
  pub high : T → ℕ
  pub reads : (t : T) → read (text t) ≡ Some (held t)
  pub spells : (xs : List ℕ) (u : T) → read xs ≡ Some u → (t : T) × (xs ≡ text t) × (held t ≡ u)
  pub same : (t u : T) → text t ≡ text u → t ≡ u
  pub whole : (t : T) → InRange t → held t ≡ t
  pub passed : (t : T) → in_range (held t) ≡ true → InRange t
  pub passes : (t : T) → InRange t → in_range t ≡ true

module _ {T : Type 0} (f : Form T) where
  abbrev pub IsToken : T → Type 0
  IsToken t = f.InRange t × (f.low t ≤ f.high t)

  -- what the numbers of a token say of it, when it is read
  abbrev pub Verdict : T → Result T TokenFault → Type 0
  Verdict t r =
      ((f.InRange t → ⊥) × (r ≡ Err TooLarge))
      ⊎ ((f.InRange t × (f.high t < f.low t) × (r ≡ Err Order)) ⊎ (f.InRange t × (f.low t ≤ f.high t) × (r ≡ Ok t)))

  abbrev ordered : T → Result T TokenFault
  ordered t = cond (ltb (f.high t) (f.low t)) (Err Order) (Ok t)

  verdict : (t : T) → Verdict t (answered f.in_range f.low f.high (Some (f.held t)))
  unfolding answered
  verdict t =
      let u = f.held t in
      ⊎_elim
      (λ test.
      let range : f.InRange t = f.passed t test in
      let first : cond (f.in_range u) (ordered u) (Err TooLarge) ≡ ordered t = cond-true (f.in_range u) (ordered u) (Err TooLarge) test ∙ ap ordered (f.whole t range) in
      inr (⊎_elim
      (λ below. inl (range, below, first ∙ cond-true (ltb (f.high t) (f.low t)) (Err Order) (Ok t) (lt-ltb (f.high t) (f.low t) below)))
      (λ above. inr (range, above, first ∙ cond-false (ltb (f.high t) (f.low t)) (Err Order) (Ok t) (le-ltb (f.high t) (f.low t) above)))
      (cases_lt (f.high t) (f.low t))))
      (λ test.
      inl (
        λ range. true≢false (sym (f.passes t range) ∙ ap f.in_range (sym (f.whole t range)) ∙ test),
        cond-false (f.in_range u) (ordered u) (Err TooLarge) test,
      ))
      (cases_Bool (f.in_range u))

  -- what a text is, and what is said of it
  abbrev pub Outcome : List ℕ → Result T TokenFault → Type 0
  Outcome text r = (((t : T) → text ≢ f.text t) × (r ≡ Err Shape)) ⊎ ((t : T) × (text ≡ f.text t) × Verdict t r)

  outcome_at : (text : List ℕ) (o : Option T) → f.read text ≡ o → Outcome text (answered f.in_range f.low f.high o)
  unfolding answered
  outcome_at text None e =
      inl (λ t is. cc (sym e ∙ ap f.read is ∙ f.reads t), refl)
  outcome_at text (Some u) e =
      let spelled = f.spells text u e in
      inr (spelled.0, spelled.1, subst (λ (w : T). Verdict spelled.0 (answered f.in_range f.low f.high (Some w))) spelled.2 (verdict spelled.0))

  pub outcome : (text : List ℕ) (r : Result T TokenFault) → r ≡ answered f.in_range f.low f.high (f.read text) → Outcome text r
  outcome text r e = subst (Outcome text) (sym e) (outcome_at text (f.read text) refl)

  by_case : {P : Type 0} (text : List ℕ) (r : Result T TokenFault) → Outcome text r
      → (((t : T) → text ≢ f.text t) → r ≡ Err Shape → P)
      → ((t : T) → text ≡ f.text t → (f.InRange t → ⊥) → r ≡ Err TooLarge → P)
      → ((t : T) → text ≡ f.text t → f.InRange t → f.high t < f.low t → r ≡ Err Order → P)
      → ((t : T) → text ≡ f.text t → f.InRange t → f.low t ≤ f.high t → r ≡ Ok t → P) → P
  by_case text r o shape large order ok = ⊎_elim
      (λ none. shape none.0 none.1)
      (λ some. ⊎_elim
      (λ v. large some.0 some.1 v.0 v.1)
      (λ rest. ⊎_elim (λ v. order some.0 some.1 v.0 v.1 v.2) (λ v. ok some.0 some.1 v.0 v.1 v.2) rest)
      some.2)
      o

  pub found_by : (text : List ℕ) (r : Result T TokenFault) → Outcome text r → IfOk r (λ t. (text ≡ f.text t) × IsToken t)
  found_by text r o =
      let P : Result T TokenFault → Type 0 = λ q. IfOk q (λ t. (text ≡ f.text t) × IsToken t) in
      by_case text r o
      (λ none is. subst P (sym is) tt)
      (λ t at out is. subst P (sym is) tt)
      (λ t at range below is. subst P (sym is) tt)
      (λ t at range above is. subst P (sym is) (at, (range, above)))

  pub back_by : (text : List ℕ) (r : Result T TokenFault) → Outcome text r → (t : T) → text ≡ f.text t → IsToken t → r ≡ Ok t
  back_by text r o t at is_token = by_case text r o
      (λ none is. absurd (none t at))
      (λ u u_at out is. absurd (out (subst f.InRange (f.same t u (sym at ∙ u_at)) is_token.0)))
      (λ u u_at u_range below is. let same = f.same t u (sym at ∙ u_at) in absurd (omega (arith, is_token.1, below, ap f.high same, ap f.low same)))
      (λ u u_at u_range u_above is. is ∙ ap Ok (sym (f.same t u (sym at ∙ u_at))))

  pub shape_by : (text : List ℕ) (r : Result T TokenFault) → Outcome text r → IsErrOf r Shape ↔ ((t : T) → text ≢ f.text t)
  shape_by text r o = (
    λ shape. by_case text r o (λ none is. none) (λ t at out is. absurd (cc)) (λ t at range below is. absurd (cc)) (λ t at range above is. absurd (cc)),
    λ none. by_case text r o (λ _ is. is) (λ t at out is. absurd (none t at)) (λ t at range below is. absurd (none t at)) (λ t at range above is. absurd (none t at)),
  )

  pub too_large_by : (text : List ℕ) (r : Result T TokenFault) → Outcome text r → IsErrOf r TooLarge ↔ ((t : T) × (text ≡ f.text t) × ¬ f.InRange t)
  too_large_by text r o = (
    λ large. by_case text r o (λ none is. absurd (cc)) (λ t at out is. (t, at, out)) (λ t at range below is. absurd (cc)) (λ t at range above is. absurd (cc)),
    λ some. by_case text r o
        (λ none is. absurd (none some.0 some.1))
        (λ t at out is. is)
        (λ t at range below is. absurd (some.2 (subst f.InRange (f.same t some.0 (sym at ∙ some.1)) range)))
        (λ t at range above is. absurd (some.2 (subst f.InRange (f.same t some.0 (sym at ∙ some.1)) range))),
  )

  pub order_by : (text : List ℕ) (r : Result T TokenFault) → Outcome text r → IsErrOf r Order ↔ ((t : T) × (text ≡ f.text t) × f.InRange t × (f.high t < f.low t))
  order_by text r o = (
    λ order. by_case text r o (λ none is. absurd (cc)) (λ t at out is. absurd (cc)) (λ t at range below is. (t, at, range, below)) (λ t at range above is. absurd (cc)),
    λ some. by_case text r o
        (λ none is. absurd (none some.0 some.1))
        (λ t at out is. absurd (out (subst f.InRange (f.same some.0 t (sym some.1 ∙ at)) some.2)))
        (λ t at range below is. is)
        (λ t at range above is.
        let same = f.same some.0 t (sym some.1 ∙ at) in
        absurd (omega (arith, above, some.3, ap f.high same, ap f.low same))),
  )
