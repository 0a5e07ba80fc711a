-- The keys of an object, and the value at a key.
use Rattle.std.specs.Prelude.{ℕ, List, [], ◌∷◌, map, Bool, true, ◌&&◌, Option, Some, None, if◌then◌else◌, refl}
use Rattle.std.specs.declared.cmp.Ordering.{Ordering}
use Rattle.std.specs.declared.cmp.Ordering.TheVariants.{Less, Equal, Greater}
use Rattle.std.specs.Ordering.{nat_cmp, is_lt}
use Rattle.std.specs.Cmp.Lexicographic.{slice_cmp}
use Rattle.std.specs.Coded.{Coded, coded_list, coded_ℕ, coded×, code_by}
use Rattle.std.specs.Str.{bytes_eq}
use Rattle.mx_json.specs.declared.members.Member.{Member}

abbrev pub keys_of : {V : Type 0} → List (Member V) → List (List ℕ)
keys_of ms = map (λ m. m.key) ms

-- each key is above the one before it, by bytes
abbrev pub are_ordered : List (List ℕ) → Bool
are_ordered [] = true
are_ordered (k ∷ []) = true
are_ordered (k ∷ l ∷ ks) = is_lt (slice_cmp nat_cmp k l) && are_ordered (l ∷ ks)

-- the value at a key
abbrev pub value_at : {V : Type 0} → List ℕ → List (Member V) → Option V
value_at k [] = None
value_at k (m ∷ ms) = if bytes_eq m.key k then Some m.value else value_at k ms

abbrev pub member_code : {V : Type 0} → Coded V → Coded (Member V)
member_code {V} c = code_by (List ℕ × V) (coded× (coded_list coded_ℕ) c) (λ m. (m.key, m.value)) (λ p. record { key = p.0; value = p.1 }) (λ _. refl)

-- a key below the first member's goes before it, an equal one in its place, another one behind it
abbrev pub set_before : {V : Type 0} → Ordering → List ℕ → V → Member V → List (Member V) → List (Member V) → List (Member V)
set_before Less k v m ms behind = record { key = k; value = v } ∷ m ∷ ms
set_before Equal k v m ms behind = record { key = k; value = v } ∷ ms
set_before Greater k v m ms behind = m ∷ behind

-- members in order with a value set at a key
abbrev pub with_member : {V : Type 0} → List ℕ → V → List (Member V) → List (Member V)
with_member k v [] = record { key = k; value = v } ∷ []
with_member k v (m ∷ ms) = set_before (slice_cmp nat_cmp k m.key) k v m ms (with_member k v ms)
