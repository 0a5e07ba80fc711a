-- Calls that send events to a room, and that read its state at a key (Client-Server API, Sending events to a room, Redactions,
-- Getting events for a room).
use Rattle.std.specs.Prelude.{ℕ, List, [], ◌∷◌, option_map, if◌then◌else◌, codes}
use Rattle.std.specs.Str.{bytes_eq}
use Rattle.mx_json.specs.Fields.{text_at}
use Rattle.mx_json.specs.declared.value.Json.{Json}
use Rattle.mx_event.specs.declared.event.Txn.{Txn}
use Rattle.mx_ask.specs.declared.ask.Ask.TheVariants as ask
use Rattle.mx_ask.specs.declared.ask.Who.{Who}
use Rattle.mx_api.specs.Bodies.{object_of}
use Rattle.mx_api.specs.Calls.{asked_by, request}
use Rattle.mx_api.specs.Parts.{asked_of, four_parts, three_parts}
use Rattle.mx_api.specs.declared.asked.Asked.{Asked}
use Rattle.mx_api.specs.declared.authenticated.Authenticated.{Authenticated}

-- the room, what stands before the transaction id, and the transaction of a device, by the parts of a path: the id is the
-- last, and those before it are the transaction's path
abbrev pub in_txn : ℕ → List ℕ × List ℕ × List ℕ × List ℕ → List ℕ × List ℕ × Txn
in_txn device p = (p.0, p.2, record { device = device; id = p.3; path = p.0 ∷ p.1 ∷ p.2 ∷ [] })

-- PUT /rooms/{roomId}/send/{eventType}/{txnId}, by the parts from `{roomId}` on
unfoldable pub send_asked : Authenticated → List ℕ → Asked
send_asked call body =
    asked_of (λ p. asked_by (λ content. request call.who (ask.Send p.0 p.1 p.2 content)) (object_of body)) (option_map (in_txn call.who.device) (four_parts call.parts))

abbrev pub redaction_asked : Who → List ℕ → List ℕ → Txn → Json → Asked
redaction_asked who room event txn body = request who (ask.Redact room event txn (text_at (codes "reason") body))

-- PUT /rooms/{roomId}/redact/{eventId}/{txnId}
unfoldable pub redact_asked : Authenticated → List ℕ → Asked
redact_asked call body =
    asked_of (λ p. asked_by (redaction_asked call.who p.0 p.1 p.2) (object_of body)) (option_map (in_txn call.who.device) (four_parts call.parts))

-- what a method asks of a room's state at a key: to read its content, or to put an object
unfoldable pub at_key_asked : List ℕ → Who → List ℕ → List ℕ → List ℕ → List ℕ → Asked
at_key_asked method who room kind key body =
    if bytes_eq method (codes "GET") then request who (ask.GetState room kind key)
    else asked_by (λ content. request who (ask.PutState room kind key content)) (object_of body)

-- PUT and GET /rooms/{roomId}/state/{eventType}/{stateKey}, and the same with nothing behind the last slash, which is the empty key
unfoldable pub state_at_key_asked : List ℕ → Authenticated → List ℕ → Asked
state_at_key_asked method call body = asked_of (λ p. at_key_asked method call.who p.0 p.2 p.3 body) (four_parts call.parts)

-- PUT and GET /rooms/{roomId}/state/{eventType}, which is the empty key
unfoldable pub state_asked : List ℕ → Authenticated → List ℕ → Asked
state_asked method call body = asked_of (λ p. at_key_asked method call.who p.0 p.2 [] body) (three_parts call.parts)
