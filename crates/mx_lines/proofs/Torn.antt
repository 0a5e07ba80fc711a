-- Lines end where they end, and a file may be cut off anywhere.
use Rattle.std.proofs.Common.{◌≡◌, ℕ, zero, suc, ◌+◌, ◌-◌, ◌/◌, ◌<◌, ◌==◌, true, false, List, [], ◌∷◌, ◌++◌, length, take, refl, sym, ap, ap₂, ◌∙◌, subst, inl, inr, arith, length-append, append_assoc}
use Rattle.std.proofs.lemmas.Bool.{or_parts, or_from, or_right, ne_eqb, both_ways, cases_lt}
use Rattle.std.proofs.lemmas.List.{take-append-le}
use Rattle.std.proofs.Math.Seq.{take-append-add, take-nil}
use Rattle.std.proofs.lemmas.Grind.{flat_map-append}
use Rattle.std.specs.List.{AllByRecursion}
use Rattle.mx_lines.specs.Lines.{IsOpen, checked, ends, file_of, letter, letters, line, sum_of}
use Rattle.mx_lines.specs.Laws.{IsTorn, ReadsInOneWay, TornAnywhere}

pub ends-append : (xs ys : List ℕ) → IsOpen xs → IsOpen ys → IsOpen (xs ++ ys)
ends-append [] ys h k = k
ends-append (x ∷ xs) ys h k = let p = or_parts (x == 10) (ends xs) h in or_from (x == 10) (ends (xs ++ ys)) p.0 (ends-append xs ys p.1 k)

letter-open : (n : ℕ) → (letter n == 10) ≡ false
letter-open n = ne_eqb (letter n) 10 (λ e. omega (arith, e))

letters-open : (n : ℕ) → IsOpen (letters n)
letters-open n =
    let l : (m : ℕ) → (letter m == 10) ≡ false = letter-open in
    or_from _ _ (l (n / 268435456)) (or_from _ _ (l (n / 16777216)) (or_from _ _ (l (n / 1048576)) (or_from _ _ (l (n / 65536))
    (or_from _ _ (l (n / 4096)) (or_from _ _ (l (n / 256)) (or_from _ _ (l (n / 16)) (or_from _ _ (l n) refl)))))))

pub checked-open : (text : List ℕ) → IsOpen text → IsOpen (checked text)
checked-open text h = ends-append (letters (sum_of text)) (32 ∷ text) (letters-open (sum_of text)) h

-- two lists up to the first end of a line
pub record Cut (xs ys r s : List ℕ) : Type 0 where
  pub front : xs ≡ ys
  pub back : r ≡ s

abbrev first_of : List ℕ → ℕ
first_of [] = 0
first_of (x ∷ xs) = x

abbrev behind : List ℕ → List ℕ
behind [] = []
behind (x ∷ xs) = xs

-- an end of a line is found
has_end : (xs r : List ℕ) → ends (xs ++ 10 ∷ r) ≡ true
has_end [] r = refl
has_end (x ∷ xs) r = or_right (x == 10) (ends (xs ++ 10 ∷ r)) (has_end xs r)

-- what is open up to an end is the same where the lists are
pub cut : (xs ys r s : List ℕ) → IsOpen xs → IsOpen ys → xs ++ 10 ∷ r ≡ ys ++ 10 ∷ s → Cut xs ys r s
cut [] [] r s h k e = record { front = refl; back = ap behind e }
cut [] (y ∷ ys) r s h k e =
    let p = or_parts (y == 10) (ends ys) k in
    absurd (both_ways (10 == 10) (subst (λ z. (z == 10) ≡ false) (sym (ap first_of e)) p.0) refl)
cut (x ∷ xs) [] r s h k e =
    let p = or_parts (x == 10) (ends xs) h in
    absurd (both_ways (10 == 10) (subst (λ z. (z == 10) ≡ false) (ap first_of e) p.0) refl)
cut (x ∷ xs) (y ∷ ys) r s h k e =
    let p = or_parts (x == 10) (ends xs) h in
    let q = or_parts (y == 10) (ends ys) k in
    let rest = cut xs ys r s p.1 q.1 (ap behind e) in
    record { front = ap₂ (λ a l. a ∷ l) (ap first_of e) rest.front; back = rest.back }

-- a file that begins with a line
pub one_more : (text : List ℕ) (texts : List (List ℕ)) (rest : List ℕ) → file_of (text ∷ texts) ++ rest ≡ checked text ++ 10 ∷ (file_of texts ++ rest)
one_more text texts rest =
    ap (λ l. l ++ rest) (append_assoc (checked text) (10 ∷ []) (file_of texts)) ∙ append_assoc (checked text) (10 ∷ file_of texts) rest

-- a text is what stands behind its check
abbrev text_in : List ℕ → List ℕ
text_in (a ∷ b ∷ c ∷ d ∷ e ∷ f ∷ g ∷ h ∷ space ∷ text) = text
text_in other = []

pub same_text : (x y : List ℕ) → checked x ≡ checked y → x ≡ y
same_text x y e = ap text_in e

record Both (xs ys : List (List ℕ)) (r s : List ℕ) : Type 0 where
  pub texts : xs ≡ ys
  pub rest : r ≡ s

same_files : (xs ys : List (List ℕ)) (r s : List ℕ) → AllByRecursion IsOpen xs → AllByRecursion IsOpen ys → IsOpen r → IsOpen s → file_of xs ++ r ≡ file_of ys ++ s → Both xs ys r s
same_files [] [] r s h k a b e = record { texts = refl; rest = e }
same_files [] (y ∷ ys) r s h k a b e =
    absurd (both_ways (ends r) a (ap ends (e ∙ one_more y ys s) ∙ has_end (checked y) (file_of ys ++ s)))
same_files (x ∷ xs) [] r s h k a b e =
    absurd (both_ways (ends s) b (ap ends (sym e ∙ one_more x xs r) ∙ has_end (checked x) (file_of xs ++ r)))
same_files (x ∷ xs) (y ∷ ys) r s h k a b e =
    let first = cut (checked x) (checked y) (file_of xs ++ r) (file_of ys ++ s) (checked-open x h.0) (checked-open y k.0) (sym (one_more x xs r) ∙ (e ∙ one_more y ys s)) in
    let others = same_files xs ys r s h.1 k.1 a b first.back in
    record { texts = ap₂ (λ t ts. t ∷ ts) (same_text x y first.front) others.texts; rest = others.rest }

pub one_way : ReadsInOneWay
one_way bytes xs ys r s first second =
    let both = same_files xs ys r s first.texts_open second.texts_open first.rest_open second.rest_open (sym first.whole ∙ second.whole) in
    (both.texts, both.rest)

-- ---- a file that is cut off

take-open : (n : ℕ) (xs : List ℕ) → IsOpen xs → IsOpen (take n xs)
take-open zero xs h = refl
take-open (suc n) [] h = refl
take-open (suc n) (x ∷ xs) h = let p = or_parts (x == 10) (ends xs) h in or_from (x == 10) (ends (take n xs)) p.0 (take-open n xs p.1)

front_is : (n : ℕ) (text : List ℕ) (texts : List (List ℕ)) → n < length (line text) → take n (file_of (text ∷ texts)) ≡ take n (checked text)
front_is n text texts h =
    let count : length (line text) ≡ length (checked text) + 1 = length-append (checked text) (10 ∷ []) in
    take-append-le n (line text) (file_of texts) (omega (arith, h)) ∙ take-append-le n (checked text) (10 ∷ []) (omega (arith, h, count))

pub cut_off : (ys : List (List ℕ)) (n : ℕ) → AllByRecursion IsOpen ys → IsTorn [] ys (take n (file_of ys))
cut_off [] n h = record { count = 0; rest = []; is = record { whole = take-nil n; texts_open = tt; rest_open = refl } }
cut_off (y ∷ ys) n h = elim (cases_lt n (length (line y))) [
  | inl short ↦ record {
    count = 0;
    rest = take n (checked y);
    is = record { whole = front_is n y ys short; texts_open = tt; rest_open = take-open n (checked y) (checked-open y h.0) };
  }
  | inr long ↦
      let m : ℕ = n - length (line y) in
      let sum : n ≡ length (line y) + m = omega (arith, long) in
      let more = cut_off ys m h.1 in
      record {
        count = suc more.count;
        rest = more.rest;
        is = record {
          whole = ap (λ k. take k (line y ++ file_of ys)) sum ∙ (take-append-add (line y) (file_of ys) m ∙ (ap (λ l. line y ++ l) more.is.whole ∙ sym (append_assoc (line y) (file_of (take more.count ys)) more.rest)));
          texts_open = (h.0, more.is.texts_open);
          rest_open = more.is.rest_open;
        };
      }
]

all_after : (xs ys : List (List ℕ)) → AllByRecursion IsOpen xs → AllByRecursion IsOpen ys → AllByRecursion IsOpen (xs ++ ys)
all_after [] ys h k = k
all_after (x ∷ xs) ys h k = (h.0, all_after xs ys h.1 k)

pub torn : TornAnywhere
torn xs ys n h k far =
    let m : ℕ = n - length (file_of xs) in
    let sum : n ≡ length (file_of xs) + m = omega (arith, far) in
    let more = cut_off ys m k in
    record {
      count = more.count;
      rest = more.rest;
      is = record {
        whole =
            ap₂ (λ a l. take a l) sum (flat_map-append line xs ys)
            ∙ (take-append-add (file_of xs) (file_of ys) m ∙ (ap (λ l. file_of xs ++ l) more.is.whole ∙ (sym (append_assoc (file_of xs) (file_of (take more.count ys)) more.rest)
            ∙ ap (λ l. l ++ more.rest) (sym (flat_map-append line xs (take more.count ys))))));
        texts_open = all_after xs (take more.count ys) h more.is.texts_open;
        rest_open = more.is.rest_open;
      };
    }
