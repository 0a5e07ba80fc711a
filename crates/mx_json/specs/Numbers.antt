-- Which numbers stand in data, and which are out of the range of Canonical JSON.
use Rattle.std.specs.Prelude.{ℕ, ℤ, pos, negsuc, Bool, false, ◌||◌, nat_lt, nat_le}
use Rattle.serde_json.specs.Data.{Num, unsigned, negative, float, Data, null, boolean, number, string, array, object, Items, no_items, item, Members, no_members, member}
use Rattle.serde_json.specs.Find.{is_float}
use Rattle.mx_json.specs.declared.numbers.Flaw.{Flaw}
use Rattle.mx_json.specs.declared.numbers.Flaw.TheVariants as flaw

-- 2^53 - 1
abbrev pub largest : ℕ
largest = 9007199254740991

-- outside plus or minus 9,007,199,254,740,991
abbrev pub is_large_integer : ℤ → Bool
is_large_integer (pos n) = nat_lt largest n
is_large_integer (negsuc n) = nat_le largest n

abbrev pub is_large : Num → Bool
is_large (unsigned n) = nat_lt largest n
is_large (negative z) = is_large_integer z
is_large (float x) = false

-- a number that the test holds of stands in the data
abbrev mutual
  pub any_number : (Num → Bool) → Data → Bool
  any_number p null = false
  any_number p (boolean b) = false
  any_number p (number n) = p n
  any_number p (string s) = false
  any_number p (array ds) = any_in_items p ds
  any_number p (object ms) = any_in_members p ms

  pub any_in_items : (Num → Bool) → Items → Bool
  any_in_items p no_items = false
  any_in_items p (item d ds) = any_number p d || any_in_items p ds

  pub any_in_members : (Num → Bool) → Members → Bool
  any_in_members p no_members = false
  any_in_members p (member k d ms) = any_number p d || any_in_members p ms

-- a whole number out of range stands in the data
abbrev pub has_large : Data → Bool
has_large d = any_number is_large d

abbrev pub has_flaw : Flaw → Num → Bool
has_flaw flaw.Fraction n = is_float n
has_flaw flaw.Range n = is_large n
