-- The check of eight bytes more, with one division.
use Rattle.std.proofs.Common.{◌≡◌, ℕ, ◌+◌, ◌*◌, ◌/◌, ◌%◌, List, [], ◌∷◌, ◌++◌, length, slice_index_or, take, drop, refl, sym, ap, ◌∙◌, arith}
use Rattle.std.proofs.Math.Nat.{add-mul-mod_self_left, mod-add-div'}
use Rattle.std.proofs.lemmas.List.{take-append-drop}
use Rattle.mx_lines.specs.Lines.{sum_from}

-- a division that comes before another one is of no account
step : (x b : ℕ) → (x % 4294967291 * 16777619 + b + 1) % 4294967291 ≡ (x * 16777619 + b + 1) % 4294967291
step x b =
    let is : x * 16777619 + b + 1 ≡ x % 4294967291 * 16777619 + b + 1 + 4294967291 * (x / 4294967291 * 16777619) = omega (arith, mod-add-div' x 4294967291) in
    sym (ap (λ y. y % 4294967291) is ∙ add-mul-mod_self_left (x % 4294967291 * 16777619 + b + 1) 4294967291 (x / 4294967291 * 16777619))

more : (s e x : ℕ) → s ≡ e % 4294967291 → (s * 16777619 + x + 1) % 4294967291 ≡ (e * 16777619 + x + 1) % 4294967291
more s e x is = ap (λ t. (t * 16777619 + x + 1) % 4294967291) is ∙ step e x

module _ (n a b c d e f g h : ℕ) where
  in_turn : sum_from n (a ∷ b ∷ c ∷ d ∷ e ∷ f ∷ g ∷ h ∷ []) ≡ ((((((((n * 16777619 + a + 1) * 16777619 + b + 1) * 16777619 + c + 1) * 16777619 + d + 1) * 16777619 + e + 1) * 16777619 + f + 1) * 16777619 + g + 1) * 16777619 + h + 1) % 4294967291
  in_turn = more _ (((((((n * 16777619 + a + 1) * 16777619 + b + 1) * 16777619 + c + 1) * 16777619 + d + 1) * 16777619 + e + 1) * 16777619 + f + 1) * 16777619 + g + 1) h (more _ ((((((n * 16777619 + a + 1) * 16777619 + b + 1) * 16777619 + c + 1) * 16777619 + d + 1) * 16777619 + e + 1) * 16777619 + f + 1) g (more _ (((((n * 16777619 + a + 1) * 16777619 + b + 1) * 16777619 + c + 1) * 16777619 + d + 1) * 16777619 + e + 1) f (more _ ((((n * 16777619 + a + 1) * 16777619 + b + 1) * 16777619 + c + 1) * 16777619 + d + 1) e (more _ (((n * 16777619 + a + 1) * 16777619 + b + 1) * 16777619 + c + 1) d (more _ ((n * 16777619 + a + 1) * 16777619 + b + 1) c (more _ (n * 16777619 + a + 1) b refl))))))

  at_once : ((((((((n * 16777619 + a + 1) * 16777619 + b + 1) * 16777619 + c + 1) * 16777619 + d + 1) * 16777619 + e + 1) * 16777619 + f + 1) * 16777619 + g + 1) * 16777619 + h + 1) ≡ n * 4064249924 + a * 60496965 + b * 3702781328 + c * 3446143870 + d * 2842014495 + e * 1451487606 + f * 638024312 + g * 16777619 + h + 12157726196 + 4294967291 * (n * 1461782512655340836545357986107794456915848910087 + a * 87126934558195703248795790755994307470914 + b * 5193045244274274153489585784251883 + c * 309522182156733571878678719 + d * 18448516571793266486 + e * 1099590863983 + f * 65539 + 87126939751241257045270549496823354597524)
  at_once = omega (arith)

  pub of_eight : (n * 4064249924 + a * 60496965 + b * 3702781328 + c * 3446143870 + d * 2842014495 + e * 1451487606 + f * 638024312 + g * 16777619 + h + 12157726196) % 4294967291 ≡ sum_from n (a ∷ b ∷ c ∷ d ∷ e ∷ f ∷ g ∷ h ∷ [])
  of_eight = sym (in_turn ∙ ap (λ y. y % 4294967291) at_once ∙ add-mul-mod_self_left (n * 4064249924 + a * 60496965 + b * 3702781328 + c * 3446143870 + d * 2842014495 + e * 1451487606 + f * 638024312 + g * 16777619 + h + 12157726196) 4294967291 (n * 1461782512655340836545357986107794456915848910087 + a * 87126934558195703248795790755994307470914 + b * 5193045244274274153489585784251883 + c * 309522182156733571878678719 + d * 18448516571793266486 + e * 1099590863983 + f * 65539 + 87126939751241257045270549496823354597524))

-- the same of eight bytes by their places
pub of_bytes : (n : ℕ) (bytes : List ℕ) → length bytes ≡ 8 → (a b c d e f g h : ℕ) → a ≡ slice_index_or bytes 0 0 → b ≡ slice_index_or bytes 1 0 → c ≡ slice_index_or bytes 2 0 → d ≡ slice_index_or bytes 3 0 → e ≡ slice_index_or bytes 4 0 → f ≡ slice_index_or bytes 5 0 → g ≡ slice_index_or bytes 6 0 → h ≡ slice_index_or bytes 7 0 → (n * 4064249924 + a * 60496965 + b * 3702781328 + c * 3446143870 + d * 2842014495 + e * 1451487606 + f * 638024312 + g * 16777619 + h + 12157726196) % 4294967291 ≡ sum_from n bytes
of_bytes n [] is a b c d e f g h ea eb ec ed ee ef eg eh = absurd (omega (arith, is))
of_bytes n (x0 ∷ []) is a b c d e f g h ea eb ec ed ee ef eg eh = absurd (omega (arith, is))
of_bytes n (x0 ∷ x1 ∷ []) is a b c d e f g h ea eb ec ed ee ef eg eh = absurd (omega (arith, is))
of_bytes n (x0 ∷ x1 ∷ x2 ∷ []) is a b c d e f g h ea eb ec ed ee ef eg eh = absurd (omega (arith, is))
of_bytes n (x0 ∷ x1 ∷ x2 ∷ x3 ∷ []) is a b c d e f g h ea eb ec ed ee ef eg eh = absurd (omega (arith, is))
of_bytes n (x0 ∷ x1 ∷ x2 ∷ x3 ∷ x4 ∷ []) is a b c d e f g h ea eb ec ed ee ef eg eh = absurd (omega (arith, is))
of_bytes n (x0 ∷ x1 ∷ x2 ∷ x3 ∷ x4 ∷ x5 ∷ []) is a b c d e f g h ea eb ec ed ee ef eg eh = absurd (omega (arith, is))
of_bytes n (x0 ∷ x1 ∷ x2 ∷ x3 ∷ x4 ∷ x5 ∷ x6 ∷ []) is a b c d e f g h ea eb ec ed ee ef eg eh = absurd (omega (arith, is))
of_bytes n (x0 ∷ x1 ∷ x2 ∷ x3 ∷ x4 ∷ x5 ∷ x6 ∷ x7 ∷ []) is a b c d e f g h ea eb ec ed ee ef eg eh = ap (λ y. y % 4294967291) (omega (arith, ea, eb, ec, ed, ee, ef, eg, eh)) ∙ of_eight n x0 x1 x2 x3 x4 x5 x6 x7
of_bytes n (x0 ∷ x1 ∷ x2 ∷ x3 ∷ x4 ∷ x5 ∷ x6 ∷ x7 ∷ x ∷ xs) is a b c d e f g h ea eb ec ed ee ef eg eh = absurd (omega (arith, is))

pub from_append : (n : ℕ) (xs ys : List ℕ) → sum_from n (xs ++ ys) ≡ sum_from (sum_from n xs) ys
from_append n [] ys = refl
from_append n (x ∷ xs) ys = from_append ((n * 16777619 + x + 1) % 4294967291) xs ys

-- the first eight, and then the others
pub from_parts : (n : ℕ) (bytes : List ℕ) → sum_from (sum_from n (take 8 bytes)) (drop 8 bytes) ≡ sum_from n bytes
from_parts n bytes = sym (from_append n (take 8 bytes) (drop 8 bytes)) ∙ ap (sum_from n) (take-append-drop 8 bytes)
