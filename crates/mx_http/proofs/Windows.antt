-- Bytes that lie in a larger list, and what moves them.
use Rattle.std.proofs.Common.{◌≡◌, ℕ, ◌+◌, ◌-◌, ◌<◌, ◌≤◌, List, ◌++◌, length, take, drop, slice_range, sym, ap, ◌∙◌, arith, length-drop, drop-drop}
use Rattle.std.specs.List.{copy_within}
use Rattle.std.proofs.lemmas.List.{take_all, take-append-le, drop-append-le, drop-take, length-take-le}
use Rattle.std.proofs.lemmas.List.Edits.{take-paste}
use Rattle.std.proofs.Math.Seq.{take-add, take-append_seam}

-- a part of a front
cut : (xs : List ℕ) (i e : ℕ) → i ≤ e → drop i (take e xs) ≡ slice_range xs i e
cut xs i e low = let sum : e ≡ i + (e - i) = omega arith in ap (λ k. drop i (take k xs)) sum ∙ drop-take i (e - i) xs

-- the part that was moved to the front
pub shifted : (xs : List ℕ) (i j m : ℕ) → i ≤ j → j ≤ length xs → m ≡ j - i → slice_range (copy_within xs i j 0) 0 m ≡ slice_range xs i j
shifted xs i j m low high is =
    let size : m - 0 ≡ 0 + (j - i) = omega arith in
    ap (λ k. take k (copy_within xs i j 0)) size ∙ take-paste xs 0 (drop i xs) (j - i) (omega arith) (omega (arith, length-drop i xs))

-- the part where more lies behind it
pub grown : (xs more : List ℕ) (n i j : ℕ) → i ≤ j → j ≤ length xs → length xs ≤ n → slice_range (take n xs ++ more) i j ≡ slice_range xs i j
grown xs more n i j low high all =
    ap (λ l. slice_range (l ++ more) i j) (take_all n xs all)
    ∙ ap (take (j - i)) (drop-append-le i xs more (omega arith))
    ∙ take-append-le (j - i) (drop i xs) more (omega (arith, length-drop i xs))

-- the part without its first bytes
pub advanced : (xs : List ℕ) (i j k : ℕ) → i + k ≤ j → slice_range xs (i + k) j ≡ drop k (slice_range xs i j)
advanced xs i j k low =
    let size : j - i ≡ k + (j - (i + k)) = omega arith in
    sym (ap (λ m. drop k (take m (drop i xs))) size ∙ drop-take k (j - (i + k)) (drop i xs) ∙ ap (take (j - (i + k))) (drop-drop k i xs))

-- a list that was written whole
written : (ys rest : List ℕ) (n : ℕ) → n ≡ length ys → take n (ys ++ rest) ≡ ys
written ys rest n all = ap (λ k. take k (ys ++ rest)) all ∙ take-append_seam ys rest

-- the part where nothing before its end was written
kept : (xs ys : List ℕ) (i e : ℕ) → i ≤ e → take e ys ≡ take e xs → slice_range ys i e ≡ slice_range xs i e
kept xs ys i e low same = sym (cut ys i e low) ∙ ap (drop i) same ∙ cut xs i e low

-- the part and the first bytes behind it
longer : (xs : List ℕ) (i e n : ℕ) → i ≤ e → e ≤ length xs → slice_range xs i (e + n) ≡ slice_range xs i e ++ take n (drop e xs)
longer xs i e n low high =
    let size : e + n - i ≡ (e - i) + n = omega arith in
    let place : i + (e - i) ≡ e = omega arith in
    ap (λ k. take k (drop i xs)) size ∙ take-add (e - i) n (drop i xs)
    ∙ ap (λ l. slice_range xs i e ++ take n l) (drop-drop (e - i) i xs ∙ ap (λ k. drop k xs) place)

pub length_part : (xs : List ℕ) (i j : ℕ) → i ≤ j → j ≤ length xs → length (slice_range xs i j) ≡ j - i
length_part xs i j low high = length-take-le (j - i) (drop i xs) (omega (arith, length-drop i xs))

-- after a write behind the part, of which k bytes join it
pub fill_got : (xs ys rest held : List ℕ) (n i e k : ℕ) → n ≡ length ys → i ≤ e → e ≤ length ys → take e ys ≡ take e xs → slice_range xs i e ≡ held
    → 0 < k → k ≤ length ys - e → (0 < length (take k (drop e ys))) × (slice_range (take n (ys ++ rest)) i (e + k) ≡ held ++ take k (drop e ys))
fill_got xs ys rest held n i e k all low high same is some fits = (
  omega (arith, some, length-take-le k (drop e ys) (omega (arith, fits, length-drop e ys))),
  ap (λ l. slice_range l i (e + k)) (written ys rest n all) ∙ longer ys i e k low high ∙ ap (λ l. l ++ take k (drop e ys)) (kept xs ys i e low same ∙ is),
)

-- after a write behind the part, of which none joins it
pub fill_none : (xs ys rest held : List ℕ) (n i e : ℕ) → n ≡ length ys → i ≤ e → take e ys ≡ take e xs → slice_range xs i e ≡ held
    → slice_range (take n (ys ++ rest)) i e ≡ held
fill_none xs ys rest held n i e all low same is = ap (λ l. slice_range l i e) (written ys rest n all) ∙ kept xs ys i e low same ∙ is
