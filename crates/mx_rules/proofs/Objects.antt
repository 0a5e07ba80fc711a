-- Objects that are made by setting members one after the other.
use Rattle.std.proofs.Common.{ℕ, ◌≡◌, List, [], ap, ◌∙◌}
use Rattle.mx_json.specs.Keys.{with_member}
use Rattle.mx_json.specs.declared.members.Member.{Member}
use Rattle.mx_json.specs.declared.value.Json.{Json}
use Rattle.mx_json.specs.declared.value.Json.TheVariants as json

module _ (k : List ℕ) (v : Json) where
  pub of_one : (ms ns : List (Member Json)) → ms ≡ [] → ns ≡ with_member k v ms → json.Object ns ≡ json.Object (with_member k v [])
  of_one ms ns none first = ap json.Object (first ∙ ap (with_member k v) none)

  module _ (l : List ℕ) (w : Json) where
    pub of_two : (ms ns os : List (Member Json)) → ms ≡ [] → ns ≡ with_member k v ms → os ≡ with_member l w ns
        → json.Object os ≡ json.Object (with_member l w (with_member k v []))
    of_two ms ns os none first second = ap json.Object (second ∙ ap (with_member l w) (first ∙ ap (with_member k v) none))

    pub of_three : (m : List ℕ) (x : Json) (ms ns os ps : List (Member Json)) → ms ≡ [] → ns ≡ with_member k v ms → os ≡ with_member l w ns → ps ≡ with_member m x os
        → json.Object ps ≡ json.Object (with_member m x (with_member l w (with_member k v [])))
    of_three m x ms ns os ps none first second third =
        ap json.Object (third ∙ ap (with_member m x) (second ∙ ap (with_member l w) (first ∙ ap (with_member k v) none)))
