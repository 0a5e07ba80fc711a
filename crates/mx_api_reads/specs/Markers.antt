-- Calls that mark what was read (Client-Server API, Receipts, Fully read markers).
use Rattle.std.specs.Prelude.{ℕ, List, Option, Some, None, Result, Ok, Err, if◌then◌else◌, codes}
use Rattle.std.specs.Str.{bytes_eq}
use Rattle.mx_json.specs.Fields.{field, text_of}
use Rattle.mx_json.specs.declared.value.Json.{Json}
use Rattle.mx_receipt.specs.declared.receipt.ReceiptKind.{ReceiptKind}
use Rattle.mx_receipt.specs.declared.receipt.ReceiptKind.TheVariants as kind
use Rattle.mx_ask.specs.declared.ask.Ask.TheVariants as ask
use Rattle.mx_ask.specs.declared.ask.Who.{Who}
use Rattle.mx_api.specs.Bodies.{posted}
use Rattle.mx_api.specs.Calls.{asked_by, request}
use Rattle.mx_api.specs.Parts.{asked_of, four_parts, room_of}
use Rattle.mx_api.specs.declared.asked.Asked.{Asked}
use Rattle.mx_api.specs.declared.authenticated.Authenticated.{Authenticated}
use Rattle.mx_api.specs.declared.refused.Field.{Field}
use Rattle.mx_api.specs.declared.refused.Field.TheVariants as fields
use Rattle.mx_api.specs.declared.refused.Refused.{Refused}
use Rattle.mx_api.specs.declared.refused.Refused.TheVariants as refused

-- ---- POST /rooms/{roomId}/receipt/{receiptType}/{eventId}

-- what a type of a receipt marks, where it is one of the three; `m.fully_read` has no kind
abbrev pub marked_by : List ℕ → Option (Option ReceiptKind)
marked_by word =
    if bytes_eq word (codes "m.read") then Some (Some kind.Read)
    else (if bytes_eq word (codes "m.read.private") then Some (Some kind.Private)
    else (if bytes_eq word (codes "m.fully_read") then Some None else None))

-- a mark at an event of a room, by its kind; the body is an object
abbrev pub marked_asked : Who → List ℕ → List ℕ → List ℕ → Option ReceiptKind → Asked
marked_asked who room event body marks = asked_by (λ _. request who (ask.Receipt room marks event)) (posted body)

-- by the parts of the path from `{roomId}` on
unfoldable pub receipt_asked : Authenticated → List ℕ → Asked
receipt_asked call body = asked_of (λ p. asked_of (marked_asked call.who p.0 p.3 body) (marked_by p.2)) (four_parts call.parts)

-- ---- POST /rooms/{roomId}/read_markers

abbrev pub text_or : Field → Option (List ℕ) → Result (Option (List ℕ)) Refused
text_or name None = Err (refused.BadShape name)
text_or name (Some text) = Ok (Some text)

-- the event that stands at a key: none where the key isn't there
abbrev pub event_in : Field → Option Json → Result (Option (List ℕ)) Refused
event_in name None = Ok None
event_in name (Some value) = text_or name (text_of value)

abbrev pub event_named : List ℕ → Field → Json → Result (Option (List ℕ)) Refused
event_named key name body = event_in name (field key body)

-- the last of the three, and then the last two
abbrev pub markers_to : Who → List ℕ → Option (List ℕ) → Option (List ℕ) → Json → Asked
markers_to who room fully read body =
    asked_by (λ private. request who (ask.ReadMarkers room fully read private)) (event_named (codes "m.read.private") fields.ReadPrivate body)

abbrev pub markers_from : Who → List ℕ → Option (List ℕ) → Json → Asked
markers_from who room fully body = asked_by (λ read. markers_to who room fully read body) (event_named (codes "m.read") fields.Read body)

-- the three events, each where it is given
abbrev pub markers_by : Who → List ℕ → Json → Asked
markers_by who room body = asked_by (λ fully. markers_from who room fully body) (event_named (codes "m.fully_read") fields.FullyRead body)

-- by the parts of the path from `{roomId}` on
unfoldable pub read_markers_asked : Authenticated → List ℕ → Asked
read_markers_asked call body = asked_of (λ room. asked_by (markers_by call.who room) (posted body)) (room_of call.parts)
