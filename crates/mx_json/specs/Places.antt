-- Where a key stands among members, or would.
use Rattle.std.specs.Prelude.{◌≡◌, ℕ, ◌<◌, ◌≤◌, List, length, slice_index_or}
use Rattle.std.specs.declared.cmp.Ordering.{Ordering}
use Rattle.std.specs.declared.cmp.Ordering.TheVariants.{Less, Equal, Greater}
use Rattle.std.specs.List.{AllWithin}
use Rattle.std.specs.Ordering.{nat_cmp}
use Rattle.std.specs.Cmp.Lexicographic.{slice_cmp}
use Rattle.mx_json.specs.declared.members.Member.{Member}

-- how a member's key stands to a key
abbrev pub order : {V : Type 0} → List ℕ → Member V → Ordering
order key m = slice_cmp nat_cmp m.key key

-- the member at this index has the key
pub record IsPlaceOf {V : Type 0} (key : List ℕ) (ms : List (Member V)) (i : ℕ) : Type 0 where
  pub within : i < length ms
  pub equal : (d : Member V) → order key (slice_index_or ms i d) ≡ Equal

-- the members before this index have lesser keys, and the others greater ones
pub record IsPlaceFor {V : Type 0} (key : List ℕ) (ms : List (Member V)) (i : ℕ) : Type 0 where
  pub within : i ≤ length ms
  pub before : AllWithin (λ m. order key m ≡ Less) ms 0 i
  pub behind : AllWithin (λ m. order key m ≡ Greater) ms i (length ms)
