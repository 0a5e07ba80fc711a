-- The sessions of one thread: one moves, and the others stay as they were.
use Rattle.std.proofs.Common.{◌≡◌, ℕ, zero, suc, [], ◌∷◌, ◌<◌, List, Option, Some, None, IfSome, length, slice_set, slice_index_or, refl, sym, ap, ◌∙◌, subst, inl, inr, arith}
use Rattle.std.specs.Global.{Vec}
use Rattle.std.specs.List.{slice_get}
use Rattle.std.proofs.lemmas.Bool.Decides.{eqb_tells}
use Rattle.std.proofs.lemmas.List.{get_or-set_other, get_or-set_same, length-set}
use Rattle.std.proofs.lemmas.Option.{get_or_from_slice_get, slice_get-get_or, slice_get_within}
use Rattle.mx_fold.specs.Lists.{Grows, Histories, Lists, lists_of}
use Rattle.mx_poll.specs.Aims.Asked.{Site}
use Rattle.mx_poll.specs.OfEngine.Answers.{Stops}
use Rattle.mx_poll.specs.OfEngine.EnginePass.{EnginePass}
use Rattle.mx_poll.specs.OfEngine.Mark.{Mark}
use Rattle.mx_poll.specs.OfEngine.Shown.{stores_of}
use Rattle.mx_poll.proofs.Staying.{polled_grows}
use Rattle.mx_poll.specs.OfEngine.Exchanges.{first_of}
use Rattle.mx_serve.specs.Sessions.{Moment}
use Rattle.mx_loop.specs.Stands.{ArePolled, IsFirst, Stands, sight}
use Rattle.mx_loop.specs.Turns.{AreHeld, IsHeld}
use Rattle.mx_loop.specs.declared.line.State.{State}
use Rattle.mx_loop.specs.declared.line.State.TheVariants as state
use Rattle.mx_loop.specs.declared.session.Session.{Session}
use Rattle.mx_loop.proofs.Older.{at_most_on, first_later}

-- ---- where more was seen

state_grows : (old new : Histories) (marks : Vec Mark) (s : State) → Grows old new → ArePolled (lists_of old) marks s → ArePolled (lists_of new) marks s
state_grows old new marks state.Head g h = tt
state_grows old new marks (state.Body d) g h = tt
state_grows old new marks (state.Rests r) g h = (polled_grows r.poll old new h.0 g, h.1)
state_grows old new marks (state.Writes n) g h = tt
state_grows old new marks (state.Ended e) g h = tt

-- a session that begins doesn't rest
pub first_polled : (limit : ℕ) (l : Lists) (marks : Vec Mark) (s : State) → IsFirst limit s → ArePolled l marks s
first_polled limit l marks state.Head is = tt
first_polled limit l marks (state.Body d) is = absurd is
first_polled limit l marks (state.Rests r) is = absurd is
first_polled limit l marks (state.Writes n) is = absurd is
first_polled limit l marks (state.Ended e) is = tt

-- what is put at a place is there
pub slice_get_set : {A : Type 0} (xs : List A) (which : ℕ) (y : A) → which < length xs → slice_get (slice_set xs which y) which ≡ Some y
slice_get_set xs which y within = slice_get-get_or (slice_set xs which y) which y (omega (arith, within, length-set xs which y)) ∙ ap Some (get_or-set_same xs which y y within)

-- another one is as it was
pub slice_get_other : {A : Type 0} (xs : List A) (which i : ℕ) (y : A) → (i ≡ which → ⊥) → slice_get (slice_set xs which y) i ≡ slice_get xs i
slice_get_other [] which i y never = refl
slice_get_other (x ∷ xs) zero zero y never = absurd (never refl)
slice_get_other (x ∷ xs) zero (suc i) y never = refl
slice_get_other (x ∷ xs) (suc which) zero y never = refl
slice_get_other (x ∷ xs) (suc which) (suc i) y never = slice_get_other xs which i y (λ e. never (ap suc e))

module _ (site : Site) (stops : Stops) {P : Type 0} (old new : EnginePass) (grows : Grows (stores_of old) (stores_of new)) where
  held_on : (s : Session P) → IsHeld old s → IsHeld new s
  held_on s h = record {
    seen = at_most_on site stops (stores_of old) (stores_of new) s.line.seen h.seen grows;
    polled = state_grows (stores_of old) (stores_of new) s.line.marks s.state grows h.polled;
  }

  place_held_on : (o : Option (Session P)) → IfSome o (λ s. IsHeld old s) → IfSome o (λ s. IsHeld new s)
  place_held_on None h = tt
  place_held_on (Some s) h = held_on s h

  -- none has moved
  pub held_all : (all : List (Option (Session P))) → AreHeld old all → AreHeld new all
  held_all all h = λ k d within. place_held_on (slice_index_or all k d) (h k d within)

  -- one has moved
  pub held_with : (all : List (Option (Session P))) (which : ℕ) (s : Session P) → AreHeld old all → IsHeld new s → AreHeld new (slice_set all which (Some s))
  held_with all which s h is = λ k d within. elim (eqb_tells k which) [
    | inl e ↦ subst (λ o. IfSome o (λ x. IsHeld new x)) (sym (ap (λ j. slice_index_or (slice_set all which (Some s)) j d) e.1 ∙ get_or-set_same all which (Some s) d (omega (arith, e.1, within, length-set all which (Some s))))) is
    | inr e ↦ subst (λ o. IfSome o (λ x. IsHeld new x)) (sym (get_or-set_other all which k (Some s) d e.1)) (place_held_on (slice_index_or all k d) (h k d (omega (arith, within, length-set all which (Some s)))))
  ]

  -- ---- each stands as before

  module _ (left written : P → Option (List ℕ)) (limit : ℕ) (start : Moment) where
    abbrev StandsOn : EnginePass → Session P → Type 0
    StandsOn pass s = Stands site stops limit start (first_of (stores_of pass) s.line.seen) (sight left written s.line) s.state

    abbrev PlaceOn : EnginePass → Option (Session P) → Type 0
    PlaceOn pass o = IfSome o (StandsOn pass)

    stands_on : (s : Session P) → IsHeld old s → StandsOn old s → StandsOn new s
    stands_on s h x = subst (λ l. Stands site stops limit start l (sight left written s.line) s.state) (first_later site stops (stores_of old) (stores_of new) s.line.seen grows h.seen) x

    place_on : (o : Option (Session P)) → IfSome o (λ s. IsHeld old s) → PlaceOn old o → PlaceOn new o
    place_on None h x = tt
    place_on (Some s) h x = stands_on s h x

    other_stands : (all : List (Option (Session P))) (i : ℕ) (o : Option (Option (Session P))) → slice_get all i ≡ o → AreHeld old all → IfSome o (PlaceOn old) → IfSome o (PlaceOn new)
    other_stands all i None is held h = tt
    other_stands all i (Some s) is held h =
        place_on s (subst (λ x. IfSome x (λ t. IsHeld old t)) (get_or_from_slice_get all i s s is) (held i s (slice_get_within all i s is))) h

    pub stands_all : (all : List (Option (Session P))) (i : ℕ) → AreHeld old all → IfSome (slice_get all i) (PlaceOn old) → IfSome (slice_get all i) (PlaceOn new)
    stands_all all i held h = other_stands all i (slice_get all i) refl held h

    pub stands_with : (all : List (Option (Session P))) (which : ℕ) (s t : Session P) → which < length all → slice_get all which ≡ Some (Some s) → AreHeld old all → (StandsOn old s → StandsOn new t)
        → (i : ℕ) → IfSome (slice_get all i) (PlaceOn old) → IfSome (slice_get (slice_set all which (Some t)) i) (PlaceOn new)
    stands_with all which s t within is held moves i h = elim (eqb_tells i which) [
      | inl e ↦
          let here : slice_get all i ≡ Some (Some s) = ap (slice_get all) e.1 ∙ is in
          let there : slice_get (slice_set all which (Some t)) i ≡ Some (Some t) =
          ap (slice_get (slice_set all which (Some t))) e.1 ∙ slice_get_set all which (Some t) within in
          subst (λ o. IfSome o (PlaceOn new)) (sym there) (moves (subst (λ o. IfSome o (PlaceOn old)) here h))
      | inr e ↦
          let same : slice_get (slice_set all which (Some t)) i ≡ slice_get all i = slice_get_other all which i (Some t) e.1 in
          subst (λ o. IfSome o (PlaceOn new)) (sym same) (other_stands all i (slice_get all i) refl held h)
    ]
