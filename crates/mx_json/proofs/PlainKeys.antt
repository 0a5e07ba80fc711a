-- Keys of ASCII without dots and backslashes, as first parts of dotted paths.
use Rattle.std.proofs.Common.{ℕ, ◌≡◌, ◌<◌, Bool, true, false, not, ◌&&◌, ◌||◌, List, [], ◌∷◌, ◌++◌, map, if◌then◌else◌, refl, sym, ap, ap₂, subst, ◌∙◌, append-nil}
use mathlib.Core.Logic.{◌⊎◌, inl, inr}
use Rattle.std.proofs.lemmas.Bool.{and_parts, eqb-true, ltb-true}
use Rattle.std.proofs.lemmas.Str.Ascii.{IsAscii-cons, IsAscii-nil}
use Rattle.std.specs.Prelude.{nat_eq, nat_lt}
use Rattle.std.specs.Str.{IsAscii}
use Rattle.mx_json.specs.Lookups.{behind_slash, first_part, later_parts, marks}
use Rattle.mx_json.specs.declared.paths.Mark.{Mark}
use Rattle.mx_json.specs.declared.paths.Mark.TheVariants.{Dot, Of}

abbrev pub is_plain : ℕ → Bool
is_plain c = nat_lt c 128 && (not (nat_eq c 46) && not (nat_eq c 92))

abbrev pub are_plain : List ℕ → Bool
are_plain [] = true
are_plain (c ∷ cs) = is_plain c && are_plain cs

record IsPlain (c : ℕ) : Type 0 where
  small : c < 128
  no_dot : nat_eq c 46 ≡ false
  no_slash : nat_eq c 92 ≡ false

was_false : (b : Bool) → not b ≡ true → b ≡ false
was_false true h = absurd cc
was_false false h = refl

plain_one : (c : ℕ) → is_plain c ≡ true → IsPlain c
plain_one c h =
    let p = and_parts (nat_lt c 128) (not (nat_eq c 46) && not (nat_eq c 92)) h in
    let q = and_parts (not (nat_eq c 46)) (not (nat_eq c 92)) p.1 in
    record { small = ltb-true c 128 p.0; no_dot = was_false (nat_eq c 46) q.0; no_slash = was_false (nat_eq c 92) q.1 }

pub are_ascii : (k : List ℕ) → are_plain k ≡ true → IsAscii k
are_ascii [] h = IsAscii-nil
are_ascii (c ∷ k) h = let p = and_parts (is_plain c) (are_plain k) h in IsAscii-cons c k (plain_one c p.0).small (are_ascii k p.1)

-- the marks of a key are those of its characters
marks_of : (k cs : List ℕ) → are_plain k ≡ true → marks (k ++ cs) ≡ map Of k ++ marks cs
marks_of [] cs h = refl
marks_of (c ∷ k) cs h =
    let p = and_parts (is_plain c) (are_plain k) h in
    let one = plain_one c p.0 in
    rw (one.no_dot, one.no_slash) (ap (λ ms. Of c ∷ ms) (marks_of k cs p.1))

first_of : (k : List ℕ) (ms : List Mark) → first_part (map Of k ++ ms) ≡ k ++ first_part ms
first_of [] ms = refl
first_of (c ∷ k) ms = ap (λ l. c ∷ l) (first_of k ms)

later_of : (k : List ℕ) (ms : List Mark) → later_parts (map Of k ++ ms) ≡ later_parts ms
later_of [] ms = refl
later_of (c ∷ k) ms = later_of k ms

-- a path that is a key, or goes on behind it with a dot
module _ (k : List ℕ) (plain : are_plain k ≡ true) where
  marks_alone : marks k ≡ map Of k ++ []
  marks_alone = ap marks (sym (append-nil k)) ∙ marks_of k [] plain

  pub first_alone : first_part (marks k) ≡ k
  first_alone = ap first_part marks_alone ∙ first_of k [] ∙ append-nil k

  pub later_alone : later_parts (marks k) ≡ []
  later_alone = ap later_parts marks_alone ∙ later_of k []

  module _ (rest : List ℕ) where
    pub first_before : first_part (marks (k ++ 46 ∷ rest)) ≡ k
    first_before = ap first_part (marks_of k (46 ∷ rest) plain) ∙ first_of k (Dot ∷ marks rest) ∙ append-nil k

    pub later_behind : later_parts (marks (k ++ 46 ∷ rest)) ≡ first_part (marks rest) ∷ later_parts (marks rest)
    later_behind = ap later_parts (marks_of k (46 ∷ rest) plain) ∙ later_of k (Dot ∷ marks rest)

-- a path whose first part is a key is the key, or goes on behind it with a dot
abbrev Spells : List ℕ → List ℕ → Type 0
Spells k cs = are_plain k ≡ true → (cs ≡ k) ⊎ ((rest : List ℕ) × (cs ≡ k ++ 46 ∷ rest))

slash_first : (cs : List ℕ) → are_plain (first_part (behind_slash cs)) ≡ true → ⊥
slash_first [] h = let bad : false ≡ true = h in absurd cc
slash_first (d ∷ ds) h = by_test (nat_eq d 46 || nat_eq d 92) refl h
  where
    by_test : (b : Bool) → (nat_eq d 46 || nat_eq d 92) ≡ b → are_plain (first_part (if b then Of d ∷ marks ds else Of 92 ∷ Of d ∷ marks ds)) ≡ true → ⊥
    by_test true either g =
        let one = plain_one d (and_parts (is_plain d) (are_plain (first_part (marks ds))) g).0 in
        let bad : false ≡ true = ap₂ (λ x y. x || y) (sym one.no_dot) (sym one.no_slash) ∙ either in
        absurd cc
    by_test false either g = let bad : false ≡ true = g in absurd cc

one_more : (c : ℕ) (k cs : List ℕ) → (cs ≡ k) ⊎ ((rest : List ℕ) × (cs ≡ k ++ 46 ∷ rest)) → (c ∷ cs ≡ c ∷ k) ⊎ ((rest : List ℕ) × (c ∷ cs ≡ (c ∷ k) ++ 46 ∷ rest))
one_more c k cs (inl is) = inl (ap (λ l. c ∷ l) is)
one_more c k cs (inr is) = inr (is.0, ap (λ l. c ∷ l) is.1)

spelled : (cs : List ℕ) → Spells (first_part (marks cs)) cs
spelled [] = λ h. inl refl
spelled (c ∷ cs) = by_dot (nat_eq c 46) refl (spelled cs)
  where
    by_slash : (b : Bool) → Spells (first_part (marks cs)) cs → Spells (first_part (if b then behind_slash cs else Of c ∷ marks cs)) (c ∷ cs)
    by_slash true rest = λ h. absurd (slash_first cs h)
    by_slash false rest = λ h. one_more c (first_part (marks cs)) cs (rest (and_parts (is_plain c) (are_plain (first_part (marks cs))) h).1)

    by_dot : (b : Bool) → nat_eq c 46 ≡ b → Spells (first_part (marks cs)) cs
        → Spells (first_part (if b then Dot ∷ marks cs else (if nat_eq c 92 then behind_slash cs else Of c ∷ marks cs))) (c ∷ cs)
    by_dot true dot rest = λ h. inr (cs, ap (λ x. x ∷ cs) (eqb-true c 46 dot))
    by_dot false other rest = by_slash (nat_eq c 92) rest

pub spelled_as : (k cs : List ℕ) → are_plain k ≡ true → first_part (marks cs) ≡ k → (cs ≡ k) ⊎ ((rest : List ℕ) × (cs ≡ k ++ 46 ∷ rest))
spelled_as k cs plain is = subst (λ l. Spells l cs) is (spelled cs) plain
