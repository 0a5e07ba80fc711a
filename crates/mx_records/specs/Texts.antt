-- The text of a store, as far as its first position.
use Rattle.std.specs.Prelude.{◌≡◌, ℕ, List, [], ◌∷◌, ◌++◌, map, codes, decimal}
use Rattle.mx_json.specs.Texts.{json_text}
use Rattle.mx_json.specs.declared.value.Json.{Json}
use Rattle.mx_json.specs.declared.value.Json.TheVariants as json
use Rattle.mx_records.specs.Records.{Line, line_json}
use Rattle.mx_records.specs.Values.{nat_json}
use Rattle.mx_wait.specs.declared.names.StreamName.{StreamName}
use Rattle.mx_wait.specs.declared.names.StreamName.TheVariants.{Accounts, Events, Receipts}

-- what the text of each store of a stream begins with
abbrev pub stream_text : StreamName → List ℕ
stream_text Events = codes "events"
stream_text Receipts = codes "receipts"
stream_text Accounts = codes "accounts"

abbrev pub head_text : List ℕ → ℕ → List ℕ
head_text name writer = 91 ∷ (json_text (json.Text name) ++ 44 ∷ (json_text (nat_json writer) ++ 44 ∷ []))

abbrev pub front_text : {A : Type 0} → (A → Json) → List ℕ → ℕ → List A → List ℕ
front_text f name writer items = head_text name writer ++ (json_text (json.List (map f items)) ++ 44 ∷ [])

-- the digits of the first position and a bracket end it: it is then the compact text of the store's value
abbrev pub FrontsBegin : {A : Type 0} → (A → Json) → Type 0
FrontsBegin {A} f = (l : Line A) → front_text f l.name l.writer l.items ++ (decimal l.first ++ 93 ∷ []) ≡ json_text (line_json f l)
