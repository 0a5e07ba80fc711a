-- Induction on a JSON value.
use Rattle.std.proofs.Common.{ℕ, ℤ, List, [], ◌∷◌, map, Bool, sym, subst}
use Rattle.std.specs.List.{AllByRecursion}
use Rattle.mx_json.specs.declared.members.Member.{Member}
use Rattle.mx_json.specs.declared.value.Json as json
use Rattle.mx_json.specs.declared.value.Json.{Json}
use Rattle.mx_json.specs.declared.value.Json.TheOpen.{Json-F}
use Rattle.mx_json.specs.declared.value.Json.TheFolds.{map-Json, ind-Json}
use Rattle.mx_json.specs.declared.value.Json.TheViews.{roll-Json}
use Rattle.mx_json.specs.declared.value.Json.TheVariants.{rolls-Null, rolls-Bool, rolls-Int, rolls-Text, rolls-List, rolls-Object}

-- what shows P of each value
pub record Cases (P : Json → Type 0) : Type 0 where
  pub null : P json.Null
  pub boolean : (b : Bool) → P (json.Bool b)
  pub int : (z : ℤ) → P (json.Int z)
  pub text : (s : List ℕ) → P (json.Text s)
  pub list : (js : List Json) → AllByRecursion P js → P (json.List js)
  pub object : (ms : List (Member Json)) → AllByRecursion (λ m. P m.value) ms → P (json.Object ms)

each : {P : Json → Type 0} (es : List ((j : Json) × P j)) → AllByRecursion P (map (λ e. e.0) es)
each [] = tt
each (e ∷ es) = (e.1, each es)

abbrev bare : {A B : Type 0} → (A → B) → Member A → Member B
bare h m = record { key = m.key; value = h m.value }

each_member : {P : Json → Type 0} (ms : List (Member ((j : Json) × P j))) → AllByRecursion (λ m. P m.value) (map (bare (λ e. e.0)) ms)
each_member [] = tt
each_member (m ∷ ms) = (m.value.1, each_member ms)

layer : (P : Json → Type 0) → Cases P → (y : Json-F ((j : Json) × P j)) → P (roll-Json (map-Json ((j : Json) × P j) Json (λ e. e.0) y))
layer P c Json-F.Null = subst P (sym rolls-Null) c.null
layer P c (Json-F.Bool b) = subst P (sym (rolls-Bool b)) (c.boolean b)
layer P c (Json-F.Int z) = subst P (sym (rolls-Int z)) (c.int z)
layer P c (Json-F.Text s) = subst P (sym (rolls-Text s)) (c.text s)
layer P c (Json-F.List es) = subst P (sym (rolls-List (map (λ e. e.0) es))) (c.list (map (λ e. e.0) es) (each es))
layer P c (Json-F.Object ms) = subst P (sym (rolls-Object (map (bare (λ e. e.0)) ms))) (c.object (map (bare (λ e. e.0)) ms) (each_member ms))

pub by_cases : (P : Json → Type 0) → Cases P → (j : Json) → P j
by_cases P c = ind-Json P (λ x y is. subst (λ z. P (roll-Json z)) is (layer P c y))
