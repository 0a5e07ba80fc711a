-- A pattern fits from a place on where its pieces do, each put at the first place that it fits.
use Rattle.std.proofs.Common.{◌≡◌, refl, ℕ, Bool, true, false, ◌&&◌, ◌||◌, ◌⊎◌, inl, inr, List, [], ◌∷◌, Option, Some, None, sym, ap, ap₂, ◌∙◌, subst}
use Rattle.std.proofs.lemmas.Bool.{cases_Bool}
use Rattle.std.proofs.lemmas.Option.{same_Some}
use Rattle.std.specs.Prelude.{is_some, option_map, option_and_then, nat_eq, if◌then◌else◌}
use Rattle.std.specs.List.{list_any}
use Rattle.std.specs.Option.{option_or}
use Rattle.mx_glob.specs.Globs.{Spot, spots, onward, accepts, step, holds, fits, spans, same_char}
use Rattle.mx_glob.specs.Walks.{after_star, past, ending, tried, found_in, found}
use Rattle.mx_glob.specs.declared.edge.Edge.{Edge}
use Rattle.mx_glob.specs.declared.edge.Edge.TheVariants.{Any}
use Rattle.mx_glob.specs.declared.wildcards.Same.{Same}

-- one place on; the last place stays
abbrev next_in : Option ℕ → List ℕ → Spot
next_in b [] = record { before = b; behind = [] }
next_in b (c ∷ cs) = record { before = Some c; behind = cs }

abbrev next : Spot → Spot
next s = next_in s.before s.behind

-- as many places on as the first piece of a pattern has characters
abbrev behind_piece : List ℕ → Spot → Spot
behind_piece [] s = s
behind_piece (p ∷ ps) s = if nat_eq p 42 then s else behind_piece ps (next s)

or_false : (b : Bool) → (b || false) ≡ b
or_false true = refl
or_false false = refl

or_true : (b : Bool) → (b || true) ≡ true
or_true true = refl
or_true false = refl

-- what holds at a place from the next one on holds from it on
any_next : (test : Spot → Bool) (b : Option ℕ) (cs : List ℕ) → list_any test (onward (next_in b cs)) ≡ true → list_any test (spots b cs) ≡ true
any_next test b [] e = e
any_next test b (c ∷ cs) e = ap (λ rest. test (record { before = b; behind = c ∷ cs }) || rest) e ∙ or_true (test (record { before = b; behind = c ∷ cs }))

piece_next : (ps : List ℕ) (s : Spot) → behind_piece ps (next s) ≡ next (behind_piece ps s)
piece_next [] s = refl
piece_next (p ∷ ps) s = elim (cases_Bool (nat_eq p 42)) [
  | inl stop ↦ rw stop refl
  | inr on ↦ rw on (piece_next ps (next s))
]

if_some : (b : Bool) (o : Option Spot) (r : Spot) → (if b then o else None) ≡ Some r → o ≡ Some r
if_some true o r e = e
if_some false o r e = absurd cc

ending_is : (end : Edge) (o : Option Spot) (r : Spot) → ending end o ≡ Some r → o ≡ Some r
ending_is end None r e = absurd cc
ending_is end (Some t) r e = if_some (accepts end t) (Some t) r e

-- a piece that fits ends as many characters on as it has
step_is : (same : Same) (p : ℕ) (b : Option ℕ) (cs : List ℕ) (t : Spot) → step same p cs ≡ Some t → t ≡ next_in b cs
step_is same p b [] t e = absurd cc
step_is same p b (c ∷ cs) t e = sym (same_Some (record { before = Some c; behind = cs }) t (if_some (same_char same p c) (Some (record { before = Some c; behind = cs })) t e))

past_behind : (same : Same) (ps : List ℕ) (o : Option Spot) (s r : Spot) → ((t : Spot) → o ≡ Some t → t ≡ s) → ((t : Spot) → past same ps t ≡ Some r → r ≡ behind_piece ps t) → option_and_then (past same ps) o ≡ Some r → r ≡ behind_piece ps s
past_behind same ps None s r here on e = absurd cc
past_behind same ps (Some t) s r here on e = on t e ∙ ap (behind_piece ps) (here t refl)

past_is : (same : Same) (ps : List ℕ) (s r : Spot) → past same ps s ≡ Some r → r ≡ behind_piece ps s
past_is same [] s r e = sym (same_Some s r e)
past_is same (p ∷ ps) s r e = elim (cases_Bool (nat_eq p 42)) [
  | inl stop ↦ rw stop (sym (same_Some s r (rw stop at e)))
  | inr on ↦ rw on (past_behind same ps (step same p s.behind) (next s) r (step_is same p s.before s.behind) (λ t. past_is same ps t r) (rw on at e))
]

put_is : (same : Same) (start end : Edge) (ps : List ℕ) (s r : Spot) → tried same start end ps s ≡ Some r → r ≡ behind_piece ps s
put_is same start end ps s r e = past_is same ps s r (ending_is end (past same ps s) r (if_some (accepts start s) (ending end (past same ps s)) r e))

or_cases : (o rest : Option Spot) (r : Spot) → option_or o rest ≡ Some r → (o ≡ Some r) ⊎ (rest ≡ Some r)
or_cases (Some t) rest r e = inl e
or_cases None rest r e = inr e

-- what holds from a stretch's end on that is found from the next place on, holds behind the piece that is put here
on_by_one : (ps : List ℕ) (test : Spot → Bool) (s : Spot) → list_any test (onward (behind_piece ps (next s))) ≡ true → list_any test (onward (behind_piece ps s)) ≡ true
on_by_one ps test s e = any_next test (behind_piece ps s).before (behind_piece ps s).behind (subst (λ x. list_any test (onward x) ≡ true) (piece_next ps s) e)

found_later : (same : Same) (start end : Edge) (ps : List ℕ) (test : Spot → Bool) (b : Option ℕ) (cs : List ℕ) (r : Spot)
    → found_in same start end ps b cs ≡ Some r → list_any test (onward r) ≡ true → list_any test (onward (behind_piece ps (record { before = b; behind = cs }))) ≡ true
found_later same start end ps test b [] r found e = subst (λ x. list_any test (onward x) ≡ true) (put_is same start end ps (record { before = b; behind = [] }) r found) e
found_later same start end ps test b (c ∷ cs) r found e = elim (or_cases (tried same start end ps (record { before = b; behind = c ∷ cs })) (found_in same start end ps (Some c) cs) r found) [
  | inl here ↦ subst (λ x. list_any test (onward x) ≡ true) (put_is same start end ps (record { before = b; behind = c ∷ cs }) r here) e
  | inr later ↦ on_by_one ps test (record { before = b; behind = c ∷ cs }) (found_later same start end ps test (Some c) cs r later e)
]

-- a pattern with a star fits from a place on where what stands behind the star fits somewhere behind its first piece
abbrev goes_on : Same → Edge → List ℕ → Spot → Bool
goes_on same end qs r = list_any (fits same end qs) (onward r)

star_behind : (same : Same) (end : Edge) (ps qs : List ℕ) (o : Option Spot) → ((t : Spot) → fits same end ps t ≡ holds (goes_on same end qs) (past same ps t)) → holds (fits same end ps) o ≡ holds (goes_on same end qs) (option_and_then (past same ps) o)
star_behind same end ps qs None on = refl
star_behind same end ps qs (Some t) on = on t

fits_star : (same : Same) (end : Edge) (ps qs : List ℕ) (s : Spot) → after_star ps ≡ Some qs → fits same end ps s ≡ holds (goes_on same end qs) (past same ps s)
fits_star same end [] qs s e = absurd cc
fits_star same end (p ∷ ps) qs s e = elim (cases_Bool (nat_eq p 42)) [
  | inl stop ↦ rw stop (ap (λ l. list_any (fits same end l) (onward s)) (same_Some ps qs (rw stop at e)))
  | inr on ↦ rw on (star_behind same end ps qs (step same p s.behind) (λ t. fits_star same end ps qs t (rw on at e)))
]

-- one without a star, where its piece does
last_behind : (same : Same) (end : Edge) (ps : List ℕ) (o : Option Spot) → ((t : Spot) → fits same end ps t ≡ is_some (ending end (past same ps t))) → holds (fits same end ps) o ≡ is_some (ending end (option_and_then (past same ps) o))
last_behind same end ps None on = refl
last_behind same end ps (Some t) on = on t

if_is : (b : Bool) (s : Spot) → b ≡ is_some (if b then Some s else None)
if_is true s = refl
if_is false s = refl

none_not : {P : Type 0} (ps : List ℕ) → Some ps ≡ None → P
none_not ps e = absurd cc

fits_last : (same : Same) (end : Edge) (ps : List ℕ) (s : Spot) → after_star ps ≡ None → fits same end ps s ≡ is_some (ending end (past same ps s))
fits_last same end [] s e = if_is (accepts end s) s
fits_last same end (p ∷ ps) s e = elim (cases_Bool (nat_eq p 42)) [
  | inl stop ↦ none_not ps (rw stop at e)
  | inr on ↦ rw on (last_behind same end ps (step same p s.behind) (λ t. fits_last same end ps t (rw on at e)))
]

any_edge : (o : Option Spot) → ending Any o ≡ o
any_edge None = refl
any_edge (Some t) = refl

and_holds : (test : Spot → Bool) (b fit : Bool) (o : Option Spot) → fit ≡ holds test o → (b && fit) ≡ holds test (if b then o else None)
and_holds test true fit o e = e
and_holds test false fit o e = refl

and_some : (b fit : Bool) (o : Option Spot) → fit ≡ is_some o → (b && fit) ≡ is_some (if b then o else None)
and_some true fit o e = e
and_some false fit o e = refl

-- the first place serves: what a later one gives, it gives too
or_holds : (test : Spot → Bool) (o rest : Option Spot) → ((t r : Spot) → o ≡ Some t → rest ≡ Some r → test r ≡ true → test t ≡ true) → (holds test o || holds test rest) ≡ holds test (option_or o rest)
or_holds test None rest first = refl
or_holds test (Some t) None first = or_false (test t)
or_holds test (Some t) (Some r) first = elim (cases_Bool (test t)) [
  | inl is ↦ rw is refl
  | inr not ↦ elim (cases_Bool (test r)) [
    | inl later ↦ rw later (or_true (test t) ∙ sym (first t r refl refl later))
    | inr none ↦ rw none (or_false (test t))
  ]
]

or_some : (o rest : Option Spot) → (is_some o || is_some rest) ≡ is_some (option_or o rest)
or_some None rest = refl
or_some (Some t) rest = refl

module _ (same : Same) (start end : Edge) (ps : List ℕ) where
  abbrev here : Option ℕ → List ℕ → Spot
  here b cs = record { before = b; behind = cs }

  star_here : (qs : List ℕ) (s : Spot) → after_star ps ≡ Some qs → (accepts start s && fits same end ps s) ≡ holds (goes_on same end qs) (tried same start Any ps s)
  star_here qs s e = and_holds (goes_on same end qs) (accepts start s) (fits same end ps s) (ending Any (past same ps s)) (fits_star same end ps qs s e ∙ ap (holds (goes_on same end qs)) (sym (any_edge (past same ps s))))

  spans_star_in : (qs : List ℕ) (b : Option ℕ) (cs : List ℕ) → after_star ps ≡ Some qs → spans same start end ps (here b cs) ≡ holds (goes_on same end qs) (found_in same start Any ps b cs)
  spans_star_in qs b [] e = or_false (accepts start (here b []) && fits same end ps (here b [])) ∙ star_here qs (here b []) e
  spans_star_in qs b (c ∷ cs) e = ap₂ (λ x y. x || y) (star_here qs (here b (c ∷ cs)) e) (spans_star_in qs (Some c) cs e)
      ∙ or_holds (goes_on same end qs) (tried same start Any ps (here b (c ∷ cs))) (found_in same start Any ps (Some c) cs)
      (λ t r put later is. subst (λ x. list_any (fits same end qs) (onward x) ≡ true) (sym (put_is same start Any ps (here b (c ∷ cs)) t put))
      (on_by_one ps (fits same end qs) (here b (c ∷ cs)) (found_later same start Any ps (fits same end qs) (Some c) cs r later is)))

  spans_last_in : (b : Option ℕ) (cs : List ℕ) → after_star ps ≡ None → spans same start end ps (here b cs) ≡ is_some (found_in same start end ps b cs)
  spans_last_in b [] e = or_false (accepts start (here b []) && fits same end ps (here b [])) ∙ and_some (accepts start (here b [])) (fits same end ps (here b [])) (ending end (past same ps (here b []))) (fits_last same end ps (here b []) e)
  spans_last_in b (c ∷ cs) e = ap₂ (λ x y. x || y) (and_some (accepts start (here b (c ∷ cs))) (fits same end ps (here b (c ∷ cs))) (ending end (past same ps (here b (c ∷ cs)))) (fits_last same end ps (here b (c ∷ cs)) e)) (spans_last_in (Some c) cs e)
      ∙ or_some (tried same start end ps (here b (c ∷ cs))) (found_in same start end ps (Some c) cs)

abbrev first_or : List ℕ → ℕ → ℕ
first_or [] otherwise = otherwise
first_or (c ∷ cs) otherwise = c

abbrev tail : List ℕ → List ℕ
tail [] = []
tail (c ∷ cs) = cs

found_here_in : (same : Same) (start end : Edge) (ps : List ℕ) (b : Option ℕ) (cs : List ℕ) (r : Spot) → tried same start end ps (record { before = b; behind = cs }) ≡ Some r → found_in same start end ps b cs ≡ Some r
found_here_in same start end ps b [] r e = e
found_here_in same start end ps b (c ∷ cs) r e = ap (λ o. option_or o (found_in same start end ps (Some c) cs)) e

found_next_in : (same : Same) (start end : Edge) (ps : List ℕ) (b : Option ℕ) (text : List ℕ) (c : ℕ) (cs : List ℕ) → text ≡ c ∷ cs → tried same start end ps (record { before = b; behind = text }) ≡ None
    → found_in same start end ps b text ≡ found_in same start end ps (Some c) cs
found_next_in same start end ps b [] c cs e none = absurd cc
found_next_in same start end ps b (d ∷ ds) c cs e none = ap (λ o. option_or o (found_in same start end ps (Some d) ds)) none ∙ ap₂ (λ x xs. found_in same start end ps (Some x) xs) (ap (λ l. first_or l c) e) (ap tail e)

found_end_in : (same : Same) (start end : Edge) (ps : List ℕ) (b : Option ℕ) (text : List ℕ) → text ≡ [] → tried same start end ps (record { before = b; behind = text }) ≡ None → found_in same start end ps b text ≡ None
found_end_in same start end ps b [] e none = none
found_end_in same start end ps b (d ∷ ds) e none = absurd cc

-- from a place on: the first place where the piece can be put, or else from the next one on
pub found_here : (same : Same) (start end : Edge) (ps : List ℕ) (s r : Spot) → tried same start end ps s ≡ Some r → found_in same start end ps s.before s.behind ≡ Some r
found_here same start end ps s r = found_here_in same start end ps s.before s.behind r

pub found_next : (same : Same) (start end : Edge) (ps : List ℕ) (s : Spot) (c : ℕ) (cs : List ℕ) → s.behind ≡ c ∷ cs → tried same start end ps s ≡ None
    → found_in same start end ps s.before s.behind ≡ found_in same start end ps (Some c) cs
found_next same start end ps s c cs e none = found_next_in same start end ps s.before s.behind c cs e none

pub found_end : (same : Same) (start end : Edge) (ps : List ℕ) (s : Spot) → s.behind ≡ [] → tried same start end ps s ≡ None → found_in same start end ps s.before s.behind ≡ None
found_end same start end ps s e none = found_end_in same start end ps s.before s.behind e none

-- with the piece before a star put at its first place, the rest of the pattern stands behind it
pub spans_on : (same : Same) (start end : Edge) (ps qs : List ℕ) (s r : Spot) → after_star ps ≡ Some qs → found same start Any ps s ≡ Some r → spans same start end ps s ≡ spans same Any end qs r
spans_on same start end ps qs s r star put = spans_star_in same start end ps qs s.before s.behind star ∙ ap (holds (goes_on same end qs)) put

pub spans_not : (same : Same) (start end : Edge) (ps qs : List ℕ) (s : Spot) → after_star ps ≡ Some qs → found same start Any ps s ≡ None → spans same start end ps s ≡ false
spans_not same start end ps qs s star none = spans_star_in same start end ps qs s.before s.behind star ∙ ap (holds (goes_on same end qs)) none

pub spans_last : (same : Same) (start end : Edge) (ps : List ℕ) (s : Spot) → after_star ps ≡ None → spans same start end ps s ≡ is_some (found same start end ps s)
spans_last same start end ps s none = spans_last_in same start end ps s.before s.behind none

pub some_map : {A B : Type 0} (f : A → B) (o : Option A) → is_some o ≡ is_some (option_map f o)
some_map f None = refl
some_map f (Some x) = refl
