-- What stands before and behind a mark, and the lines of a file.
use Rattle.std.proofs.Common.{◌≡◌, ℕ, ◌+◌, ◌<◌, ◌≤◌, Bool, true, false, cond, not, ◌==◌, List, [], ◌∷◌, length, take, refl, sym, ap, ap₂, subst, ◌∙◌, arith, length-drop, eqb-true, ltb, ltb-true, ltb-false, Option, Some, Result, Ok, Err, true≢false}
use Rattle.std.proofs.lemmas.Bool.{cases_Bool, cond-false}
use Rattle.std.proofs.lemmas.Bool.Decides.{nat_tests}
use Rattle.std.proofs.lemmas.Grind.{common_steps}
use Rattle.std.proofs.lemmas.List.{take_all, drop_all}
use Rattle.std.proofs.lemmas.List.Splits.{slice_split-cons_yes, slice_split_first, slice_split_none}
use Rattle.std.proofs.lemmas.List.Sums.{prefix_len-le-length, fails_before_first}
use Rattle.std.specs.List.{position_or_len, before_first, after_first, slice_split}
use Rattle.std.specs.Prelude.{ok_or}
use mathlib.Core.Logic.{⊎_elim}
use Rattle.mx_ids.specs.declared.users.Users.{Users}
use Rattle.mx_users.specs.UsersFile.{Reads, and_then, only_server, server_in, starts_full, users_of_lines, with_line, with_lines}
use Rattle.mx_users.specs.declared.fault.UsersFault.{UsersFault}
use Rattle.mx_users.specs.declared.fault.UsersFault.TheVariants as faults

-- a text without the mark stands before it as a whole
pub before_none : (p : ℕ → Bool) (xs : List ℕ) → position_or_len p xs ≡ length xs → before_first p xs ≡ xs
before_none p xs e = ap (λ n. take n xs) e ∙ take_all (length xs) xs (omega arith)

pub after_none : (p : ℕ → Bool) (xs : List ℕ) → position_or_len p xs ≡ length xs → after_first p xs ≡ []
after_none p xs e = drop_all (position_or_len p xs + 1) xs (omega (arith, e))

-- what stands behind the mark is shorter than the text
pub after_shorter : (p : ℕ → Bool) (xs : List ℕ) → 0 < length xs → length (after_first p xs) < length xs
after_shorter p xs some = omega (arith, some, length-drop (position_or_len p xs + 1) xs)

-- of a function of lines that one empty line behind them doesn't change: the first line and the lines behind it
module _ {A : Type 0} (F : List (List ℕ) → A) where
  pub cut_lines : (xs : List ℕ) → ((line : List ℕ) → F (line ∷ []) ≡ F (line ∷ [] ∷ []))
      → F (slice_split (λ c. c == 10) xs) ≡ F (before_first (λ c. c == 10) xs ∷ slice_split (λ c. c == 10) (after_first (λ c. c == 10) xs))
  cut_lines xs same =
      let p : ℕ → Bool = λ c. c == 10 in
      let most : position_or_len p xs ≤ length xs = prefix_len-le-length (λ c. not (p c)) xs in
      ⊎_elim
      (λ found. ap F (slice_split_first p xs 0 (ltb-true (position_or_len p xs) (length xs) found)))
      (λ none.
      let e : position_or_len p xs ≡ length xs = omega (arith, most, ltb-false (position_or_len p xs) (length xs) none) in
      let whole : slice_split p xs ≡ xs ∷ [] = slice_split_none p xs (λ k d l. fails_before_first p xs k d (omega (arith, e, l))) in
      ap F whole ∙ same xs ∙ sym (ap₂ (λ b a. F (b ∷ slice_split p a)) (before_none p xs e) (after_none p xs e)))
      (cases_Bool (ltb (position_or_len p xs) (length xs)))

pub shorter : (rest after : List ℕ) → (length rest == 0) ≡ false → after ≡ after_first (λ c. c == 10) rest → length after < length rest
shorter rest after some later =
    let more : 0 < length rest = grind (arith, some, nat_tests) in
    subst (λ a. length a < length rest) (sym later) (after_shorter (λ c. c == 10) rest more)

-- ---- the steps of the reader

module _ (u : Users) (n : ℕ) (rest line after : List ℕ) (same : line ≡ before_first (λ c. c == 10) rest) (later : after ≡ after_first (λ c. c == 10) rest) where
  next_line : with_lines u n (slice_split (λ c. c == 10) rest) ≡ and_then (λ more. with_lines more (n + 1) (slice_split (λ c. c == 10) after)) (ok_or (with_line u line) (n + 1))
  next_line =
      cut_lines (with_lines u n) rest (λ x. refl)
      ∙ sym (ap₂ (λ l a. and_then (λ more. with_lines more (n + 1) (slice_split (λ c. c == 10) a)) (ok_or (with_line u l) (n + 1))) same later)

  pub line_taken : (v : Users) → ok_or (with_line u line) (n + 1) ≡ Ok v → with_lines u n (slice_split (λ c. c == 10) rest) ≡ with_lines v (n + 1) (slice_split (λ c. c == 10) after)
  line_taken v e = next_line ∙ ap (and_then (λ more. with_lines more (n + 1) (slice_split (λ c. c == 10) after))) e

  pub line_refused : (m : ℕ) → ok_or (with_line u line) (n + 1) ≡ Err m → with_lines u n (slice_split (λ c. c == 10) rest) ≡ Err m
  line_refused m e = next_line ∙ ap (and_then (λ more. with_lines more (n + 1) (slice_split (λ c. c == 10) after))) e

pub skipped : (n : ℕ) (cs : List ℕ) → users_of_lines n (slice_split (λ c. c == 10) (10 ∷ cs)) ≡ users_of_lines (n + 1) (slice_split (λ c. c == 10) cs)
skipped n cs = ap (users_of_lines n) (slice_split-cons_yes (λ c. c == 10) 10 cs refl)

pub no_line : (n : ℕ) (rest : List ℕ) → (length rest == 0) ≡ true → users_of_lines n (slice_split (λ c. c == 10) rest) ≡ Err 1
no_line n [] none = refl
no_line n (c ∷ cs) none = absurd (omega (arith, eqb-true (length (c ∷ cs)) 0 none))

full_line : (c : ℕ) (cs : List ℕ) → (c == 10) ≡ false → (length (before_first (λ c. c == 10) (c ∷ cs)) == 0) ≡ false
full_line c cs e = ap (λ b. length (take (cond (not b) (1 + position_or_len (λ c. c == 10) cs) 0) (c ∷ cs)) == 0) e ∙ grind (arith, common_steps, nat_tests)

pub first_line : (n : ℕ) (rest line after : List ℕ) → (length rest == 0) ≡ false → starts_full rest → line ≡ before_first (λ c. c == 10) rest → after ≡ after_first (λ c. c == 10) rest
    → users_of_lines n (slice_split (λ c. c == 10) rest) ≡ and_then (λ server. with_lines (only_server server) (n + 1) (slice_split (λ c. c == 10) after)) (ok_or (server_in line) (n + 1))
first_line n [] line after some full same later = absurd (true≢false some)
first_line n (c ∷ cs) line after some full same later =
    let xs : List ℕ = c ∷ cs in
    cut_lines (users_of_lines n) xs (λ x. refl) ∙ cond-false _ _ _ (full_line c cs full)
    ∙ sym (ap₂ (λ l a. and_then (λ server. with_lines (only_server server) (n + 1) (slice_split (λ c. c == 10) a)) (ok_or (server_in l) (n + 1))) same later)

-- the lines behind the first, where it names a server, are read as those of the file
pub read_on : {A : Type 0} (whole : Result Users ℕ) (n : ℕ) (o : Option (List ℕ)) (server name : List ℕ) (u : Users) (lines : List (List ℕ)) (f : A → Users) (r : Result A UsersFault)
    → whole ≡ and_then (λ server. with_lines (only_server server) (n + 1) lines) (ok_or o (n + 1)) → o ≡ Some server → name ≡ server → u ≡ only_server name
    → Reads (with_lines u (n + 1) lines) f r → Reads whole f r
read_on whole n o server name u lines f r first found copied started reads =
    let rest = λ (s : List ℕ). with_lines (only_server s) (n + 1) lines in
    let same : with_lines u (n + 1) lines ≡ whole =
    ap (λ v. with_lines v (n + 1) lines) (started ∙ ap only_server copied) ∙ sym (first ∙ ap (λ o. and_then rest (ok_or o (n + 1))) found) in
    subst (λ t. Reads t f r) same reads

-- a fault that is handed on, where what was told at a line is told of the whole
pub handed_on : {A B : Type 0} (part whole : Result Users ℕ) (f : A → Users) (g : B → Users) (e : UsersFault) → ((m : ℕ) → part ≡ Err m → whole ≡ Err m) → Reads part f (Err e) → Reads whole g (Err e)
handed_on part whole f g (faults.Line n) h r = h n r
handed_on part whole f g (faults.Memory _) h r = tt
