-- Receipts as a client reads them (Client-Server API, m.receipt), and as they were sent.
use Rattle.std.specs.Prelude.{ℕ, Bool, ◌&&◌, List, [], ◌∷◌, Option, Some, None, option_and_then, option_map, codes, if◌then◌else◌}
use Rattle.std.specs.Option.{option_or}
use Rattle.std.specs.Str.{bytes_eq}
use Rattle.mx_ids.specs.Ids.{event_id_text}
use Rattle.mx_json.specs.declared.value.Json.{Json}
use Rattle.mx_receipt.specs.declared.receipt.Receipt.{Receipt}
use Rattle.mx_receipt.specs.declared.receipt.ReceiptKind.{ReceiptKind}
use Rattle.mx_receipt.specs.declared.receipt.ReceiptKind.TheVariants.{Read, Private}
use Rattle.mx_window.specs.Lasts.{last_of}
use Rattle.mx_copy.specs.Looks.{◌>>=◌, keyed, natural_of, object_of, read_at}
use Rattle.mx_copy.specs.Shown.{cut}

-- when a receipt was made, by the texts of its event, its kind and its user
abbrev pub Marks : Type 0
Marks = List ℕ → List ℕ → List ℕ → Option ℕ

abbrev pub no_marks : Marks
no_marks event kind user = None

abbrev pub mark_of : Json → Option ℕ
mark_of j = object_of j >>= read_at natural_of (codes "ts")

-- of an object by event, by kind, by user
abbrev pub Nested : Type 0
Nested = List ℕ → Option (List ℕ → Option (List ℕ → Option ℕ))

abbrev pub flat : Nested → Marks
flat by_event event kind user = option_and_then (λ by_kind. option_and_then (λ by_user. by_user user) (by_kind kind)) (by_event event)

abbrev pub nested_of : Json → Option Nested
nested_of j = keyed (keyed (keyed mark_of)) j

-- what data of a type say of receipts
abbrev pub marks_by : List ℕ × Json → Option Marks
marks_by d = if bytes_eq d.0 (codes "m.receipt") then option_map flat (nested_of d.1) else Some no_marks

-- later ones replace earlier ones
abbrev pub joined_marks : List Marks → Marks
joined_marks [] event kind user = None
joined_marks (m ∷ ms) event kind user = option_or (joined_marks ms event kind user) (m event kind user)

-- ---- as they were sent

abbrev pub kind_name : ReceiptKind → List ℕ
kind_name Read = codes "m.read"
kind_name Private = codes "m.read.private"

-- a receipt is of an event, a kind and a user
abbrev pub is_of : List ℕ → List ℕ → List ℕ → List ℕ → Receipt → Bool
is_of server event kind user x = bytes_eq (event_id_text server x.event) event && (bytes_eq (kind_name x.kind) kind && bytes_eq x.user user)

-- the time of the last of them
abbrev pub marks_sent : List ℕ → List Receipt → Marks
marks_sent server xs event kind user = option_map (λ (x : Receipt). cut x.ts) (last_of (is_of server event kind user) xs)
