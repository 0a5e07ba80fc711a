-- How JSON is read by a client: an object by its keys, whatever their order and whatever else stands in it.
use Rattle.std.specs.Prelude.{ℕ, ℤ, pos, negsuc, List, [], ◌∷◌, map, Option, Some, None, option_map, option_and_then, if◌then◌else◌}
use Rattle.mx_json.specs.Fields.{int_of, is_object, list_of, members_of}
use Rattle.mx_json.specs.Keys.{value_at}
use Rattle.mx_json.specs.declared.members.Member.{Member}
use Rattle.mx_json.specs.declared.value.Json.{Json}

infixl 20 ◌>>=◌
-- what comes of something, where it is there
abbrev pub ◌>>=◌ : {A B : Type 0} → Option A → (A → Option B) → Option B
◌>>=◌ o f = option_and_then f o

-- the members of a value that is an object
abbrev pub object_of : Json → Option (List (Member Json))
object_of j = if is_object j then Some (members_of j) else None

abbrev pub natural_in : Option ℤ → Option ℕ
natural_in None = None
natural_in (Some (pos n)) = Some n
natural_in (Some (negsuc n)) = None

-- the number that a value is, where it is a whole number that isn't negative
abbrev pub natural_of : Json → Option ℕ
natural_of j = natural_in (int_of j)

abbrev pub each : {A : Type 0} → (Json → Option A) → List Json → Option (List A)
each see [] = Some []
each see (j ∷ js) = option_and_then (λ a. option_map (λ rest. a ∷ rest) (each see js)) (see j)

-- what is seen in each item of a value that is a list
abbrev pub listed : {A : Type 0} → (Json → Option A) → Json → Option (List A)
listed see j = option_and_then (each see) (list_of j)

-- what is seen in the value at a key
abbrev pub read_at : {A : Type 0} → (Json → Option A) → List ℕ → List (Member Json) → Option A
read_at see key ms = option_and_then see (value_at key ms)

abbrev pub seen_if : {A : Type 0} → (Json → Option A) → Option Json → Option (Option A)
seen_if see None = Some None
seen_if see (Some j) = option_map Some (see j)

-- the same at a key that may be absent
abbrev pub read_if : {A : Type 0} → (Json → Option A) → List ℕ → List (Member Json) → Option (Option A)
read_if see key ms = seen_if see (value_at key ms)

abbrev pub values_of : List (Member Json) → List Json
values_of ms = map (λ m. m.value) ms

-- what is seen under each key of a value that is an object, where it is seen in every value of it
abbrev pub keyed : {A : Type 0} → (Json → Option A) → Json → Option (List ℕ → Option A)
keyed see j = option_and_then (λ ms. option_map (λ all key. read_at see key ms) (each see (values_of ms))) (object_of j)
