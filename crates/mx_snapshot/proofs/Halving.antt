-- A search from the end back in strides that double, and then by halves of the last one.
use Rattle.std.proofs.Common.{◌≡◌, ℕ, ◌≤◌, ◌<◌, ◌*◌, ◌+◌, ◌-◌, ◌^◌, ◌/◌, max, leb, true, false, List, length, take, drop, filter, ltb, sym, subst, arith, leb-true, slice_index_or}
use Rattle.std.proofs.Math.Pow.{pow_mono}
use Rattle.std.proofs.lemmas.Bool.{le-leb, lt-leb, leb-false}
use Rattle.std.proofs.lemmas.Nat.{mul-le, pow-add}
use Rattle.std.proofs.lemmas.List.{get_or_default}
use Rattle.std.specs.List.{AllWithin}
use Rattle.std.specs.List.Sorted.{IsNonDecreasingBy}
use Rattle.mx_snapshot.specs.Lists.{itself}
use Rattle.mx_snapshot.specs.Halving.{IsBetween, search_cost}
use Rattle.mx_snapshot.proofs.Counted.{above_is, point_front, point_back}

-- what lies between the two ends was halved by each look
pub record Halved (positions : List ℕ) (last from end low high old new : ℕ) : Type 0 where
  pub between : IsBetween positions last low high
  pub within : high ≤ end
  pub more : old ≤ new
  pub cost : 2 ^ (new - old) * max (2 * (high - low)) 1 ≤ 2 * (end - from) + 1

pub begun : (positions : List ℕ) (last from end n : ℕ) → IsBetween positions last from end → Halved positions last from end from end n n
begun positions last from end n is = record {
  between = is;
  within = omega arith;
  more = omega arith;
  cost = let one : n - n ≡ 0 = omega arith in subst (λ t. 2 ^ t * max (2 * (end - from)) 1 ≤ 2 * (end - from) + 1) (sym one) (omega arith);
}

-- one look more, and half of what lay between
cheaper : (t more size half n : ℕ) → 2 ^ t * max (2 * size) 1 ≤ n → more ≤ t + 1 → 0 < size → 2 * half ≤ size → 2 ^ more * max (2 * half) 1 ≤ n
cheaper t more size half n cost looks some less =
    let twice : 2 ^ more ≤ 2 * 2 ^ t = subst (λ p. 2 ^ more ≤ p) (doubled t) (pow_mono looks) in
    let whole : 2 ^ more * max (2 * half) 1 ≤ (2 * 2 ^ t) * max (2 * half) 1 = mul-le (2 ^ more) (max (2 * half) 1) (2 * 2 ^ t) (max (2 * half) 1) twice (omega arith) in
    let less_of : 2 * max (2 * half) 1 ≤ max (2 * size) 1 = omega (arith, some, less) in
    let moved : (2 * 2 ^ t) * max (2 * half) 1 ≡ 2 ^ t * (2 * max (2 * half) 1) = turned (2 ^ t) (max (2 * half) 1) in
    let least : 2 ^ t * (2 * max (2 * half) 1) ≤ 2 ^ t * max (2 * size) 1 = mul-le (2 ^ t) (2 * max (2 * half) 1) (2 ^ t) (max (2 * size) 1) (omega arith) less_of in
    omega (arith, whole, moved, least, cost)
  where
    doubled : (n : ℕ) → 2 ^ (n + 1) ≡ 2 * 2 ^ n
    doubled n = let split : 2 ^ (n + 1) ≡ 2 ^ n * 2 = pow-add 2 n 1 in omega (arith, split)

    turned : (p m : ℕ) → (2 * p) * m ≡ p * (2 * m)
    turned p m = grind arith

-- one more that is at most the position, and one more that lies later
upper_ends : (positions : List ℕ) (last low high middle : ℕ) → IsBetween positions last low high → IsNonDecreasingBy itself positions
    → middle < high → leb (slice_index_or positions middle 0) last ≡ true → IsBetween positions last (middle + 1) high
upper_ends positions last low high middle was rising inside upto =
    let bound : high ≤ length positions = was.bound in record {
      order = omega (arith, inside);
      bound = was.bound;
      below = λ k d first within.
          let place : slice_index_or positions k 0 ≤ slice_index_or positions middle 0 = rising k middle 0 (omega (arith, within)) (omega (arith, inside, bound)) in
          let end : slice_index_or positions middle 0 ≤ last = leb-true (slice_index_or positions middle 0) last upto in
          le-leb (slice_index_or positions k d) last (subst (λ n. n ≤ last) (get_or_default positions k 0 d (omega (arith, within, inside, bound))) (omega (arith, place, end)));
      above = was.above;
    }

lower_ends : (positions : List ℕ) (last low high middle : ℕ) → IsBetween positions last low high → IsNonDecreasingBy itself positions
    → low ≤ middle → middle < high → leb (slice_index_or positions middle 0) last ≡ false → IsBetween positions last low middle
lower_ends positions last low high middle was rising some inside over =
    let bound : high ≤ length positions = was.bound in record {
      order = some;
      bound = omega (arith, inside, bound);
      below = was.below;
      above = λ k d first within.
          let place : slice_index_or positions middle 0 ≤ slice_index_or positions k 0 = rising middle k 0 first within in
          let begin : last < slice_index_or positions middle 0 = leb-false (slice_index_or positions middle 0) last over in
          lt-leb (slice_index_or positions k d) last (subst (λ n. last < n) (get_or_default positions k 0 d within) (omega (arith, place, begin)));
    }

pub upper : (positions : List ℕ) (last from end low high old new next middle : ℕ) → Halved positions last from end low high old new → IsNonDecreasingBy itself positions
    → low < high → middle ≡ low + (high - low) / 2 → leb (slice_index_or positions middle 0) last ≡ true → new ≤ next → next ≤ new + 1
    → Halved positions last from end (middle + 1) high old next
upper positions last from end low high old new next middle was rising some is upto more less =
    let seen : old ≤ new = was.more in record {
      between = upper_ends positions last low high middle was.between rising (omega (arith, some, is)) upto;
      within = was.within;
      more = omega (arith, more, seen);
      cost = cheaper (new - old) (next - old) (high - low) (high - (middle + 1)) (2 * (end - from) + 1) was.cost (omega (arith, more, less, seen)) (omega (arith, some)) (omega (arith, some, is));
    }

pub lower : (positions : List ℕ) (last from end low high old new next middle : ℕ) → Halved positions last from end low high old new → IsNonDecreasingBy itself positions
    → low < high → middle ≡ low + (high - low) / 2 → leb (slice_index_or positions middle 0) last ≡ false → new ≤ next → next ≤ new + 1
    → Halved positions last from end low middle old next
lower positions last from end low high old new next middle was rising some is over more less =
    let seen : old ≤ new = was.more in
    let within : high ≤ end = was.within in record {
      between = lower_ends positions last low high middle was.between rising (omega (arith, some, is)) (omega (arith, some, is)) over;
      within = omega (arith, some, is, within);
      more = omega (arith, more, seen);
      cost = cheaper (new - old) (next - old) (high - low) (middle - low) (2 * (end - from) + 1) was.cost (omega (arith, more, less, seen)) (omega (arith, some)) (omega (arith, some, is));
    }

-- nothing lies between
pub closed : (positions : List ℕ) (last low high : ℕ) → IsBetween positions last low high → high ≤ low → IsBetween positions last low low
closed positions last low high is met =
    let order : low ≤ high = is.order in
    let bound : high ≤ length positions = is.bound in
    let same : high ≡ low = omega (arith, order, met) in record {
      order = omega arith;
      bound = omega (arith, order, bound);
      below = is.below;
      above = subst (λ n. AllWithin (λ p. leb p last ≡ false) positions n (length positions)) same is.above;
    }

pub found_front : (positions : List ℕ) (last count : ℕ) → IsBetween positions last count count → take count positions ≡ filter (λ p. leb p last) positions
found_front positions last count is = point_front (λ p. leb p last) positions count is.bound (is.below, is.above)

pub found_back : (positions : List ℕ) (last count : ℕ) → IsBetween positions last count count → drop count positions ≡ filter (λ p. ltb last p) positions
found_back positions last count is = point_back (λ p. leb p last) (λ p. ltb last p) (above_is last) positions count is.bound (is.below, is.above)

pub found_cost : (positions : List ℕ) (last from end low high old new : ℕ) → Halved positions last from end low high old new → 2 ^ (new - old) ≤ 2 * (end - from) + 1
found_cost positions last from end low high old new is =
    let least : 2 ^ (new - old) * 1 ≤ 2 ^ (new - old) * max (2 * (high - low)) 1 = mul-le (2 ^ (new - old)) 1 (2 ^ (new - old)) (max (2 * (high - low)) 1) (omega arith) (omega arith) in
    let cost : 2 ^ (new - old) * max (2 * (high - low)) 1 ≤ 2 * (end - from) + 1 = is.cost in
    omega (arith, least, cost)

-- those from `high` on lie later, each stride back was as long as all before it, and each took one look
pub record Strode (positions : List ℕ) (last high old new : ℕ) : Type 0 where
  pub bound : high ≤ length positions
  pub above : AllWithin (λ p. leb p last ≡ false) positions high (length positions)
  pub more : old ≤ new
  pub cost : 0 < high → 2 ^ (new - old) ≤ length positions - high + 1
  pub least : 2 ^ (new - old) ≤ 2 * length positions + 2

pub at_end : (positions : List ℕ) (last n : ℕ) → Strode positions last (length positions) n n
at_end positions last n =
    let none : n - n ≡ 0 = omega arith in record {
      bound = omega arith;
      above = λ k d low high. absurd (omega (arith, low, high));
      more = omega arith;
      cost = λ _. subst (λ t. 2 ^ t ≤ length positions - length positions + 1) (sym none) (omega arith);
      least = subst (λ t. 2 ^ t ≤ 2 * length positions + 2) (sym none) (omega arith);
    }

-- one look more takes at most twice
twice : (old new next : ℕ) → old ≤ new → new ≤ next → next ≤ new + 1 → 2 ^ (next - old) ≤ 2 * 2 ^ (new - old)
twice old new next seen more less =
    let power : 2 ^ (next - old) ≤ 2 ^ ((new - old) + 1) = pow_mono (omega (arith, seen, more, less)) in
    let split : 2 ^ ((new - old) + 1) ≡ 2 ^ (new - old) * 2 = pow-add 2 (new - old) 1 in
    omega (arith, power, split)

pub strides_on : (positions : List ℕ) (last high old new next at : ℕ) → Strode positions last high old new → IsNonDecreasingBy itself positions
    → 0 < high → at ≡ high - (length positions - high + 1) → leb (slice_index_or positions at 0) last ≡ false → new ≤ next → next ≤ new + 1
    → Strode positions last at old next
strides_on positions last high old new next at was rising some is over more less =
    let seen : old ≤ new = was.more in
    let bound : high ≤ length positions = was.bound in
    let cost : 2 ^ (new - old) ≤ length positions - high + 1 = was.cost some in
    let power : 2 ^ (next - old) ≤ 2 * 2 ^ (new - old) = twice old new next seen more less in record {
      bound = omega (arith, is, bound);
      above = λ k d first within.
          let place : slice_index_or positions at 0 ≤ slice_index_or positions k 0 = rising at k 0 first within in
          let begin : last < slice_index_or positions at 0 = leb-false (slice_index_or positions at 0) last over in
          lt-leb (slice_index_or positions k d) last (subst (λ n. last < n) (get_or_default positions k 0 d within) (omega (arith, place, begin)));
      more = omega (arith, more, seen);
      cost = λ any. omega (arith, any, is, some, bound, cost, power);
      least = omega (arith, some, bound, cost, power);
    }

pub stride_found : (positions : List ℕ) (last high old new at : ℕ) → Strode positions last high old new → IsNonDecreasingBy itself positions
    → 0 < high → at ≡ high - (length positions - high + 1) → leb (slice_index_or positions at 0) last ≡ true → IsBetween positions last (at + 1) high
stride_found positions last high old new at was rising some is upto =
    upper_ends positions last 0 high at (record { order = omega arith; bound = was.bound; below = λ k d low within. absurd (omega (arith, within)); above = was.above })
    rising (omega (arith, some, is)) upto

pub stride_cost : (positions : List ℕ) (last high old new next : ℕ) → Strode positions last high old new → 0 < high → new ≤ next → next ≤ new + 1
    → 2 ^ (next - old) ≤ 2 * (length positions - high) + 2
stride_cost positions last high old new next was some more less =
    let cost : 2 ^ (new - old) ≤ length positions - high + 1 = was.cost some in
    let power : 2 ^ (next - old) ≤ 2 * 2 ^ (new - old) = twice old new next was.more more less in
    omega (arith, cost, power)

pub all_later : (positions : List ℕ) (last high old new : ℕ) → Strode positions last high old new → high ≤ 0 → IsBetween positions last 0 0
all_later positions last high old new was none =
    let same : high ≡ 0 = omega (arith, none) in record {
      order = omega arith;
      bound = omega arith;
      below = λ k d low within. absurd (omega (arith, within));
      above = subst (λ n. AllWithin (λ p. leb p last ≡ false) positions n (length positions)) same was.above;
    }

-- strides, and then halves of the last one
pub both_cost : (later end from count old seen new : ℕ) → old ≤ seen → seen ≤ new → 2 ^ (seen - old) ≤ 2 * (later - end) + 2 → end - from ≤ later - end → 2 ^ (new - seen) ≤ 2 * (end - from) + 1 → count ≤ end
    → 2 ^ (new - old) ≤ search_cost (later - count)
both_cost later end from count old seen new first second strides near halves within =
    let apart : new - old ≡ (seen - old) + (new - seen) = omega (arith, first, second) in
    let split : 2 ^ ((seen - old) + (new - seen)) ≡ 2 ^ (seen - old) * 2 ^ (new - seen) = pow-add 2 (seen - old) (new - seen) in
    let product : 2 ^ (seen - old) * 2 ^ (new - seen) ≤ (2 * (later - count) + 2) * (2 * (later - count) + 1) =
    mul-le (2 ^ (seen - old)) (2 ^ (new - seen)) (2 * (later - count) + 2) (2 * (later - count) + 1) (omega (arith, strides, within)) (omega (arith, near, halves, within)) in
    subst (λ n. 2 ^ n ≤ search_cost (later - count)) (sym apart) (subst (λ n. n ≤ search_cost (later - count)) (sym split) product)
