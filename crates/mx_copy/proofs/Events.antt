-- What is read of an event's members.
use Rattle.std.proofs.Common.{◌≡◌, ℕ, pos, Bool, true, false, List, [], ◌∷◌, ◌++◌, length, ◌==◌, Option, Some, None, option_map, option_and_then, unwrap_or, codes, if◌then◌else◌, refl, ap, ◌∙◌, arith}
use Rattle.std.proofs.lemmas.Bool.Decides.{nat_tests}
use Rattle.mx_ids.specs.Ids.{event_id_text, room_id_text}
use Rattle.mx_json.specs.Fields.{text_of}
use Rattle.mx_json.specs.Keys.{value_at}
use Rattle.mx_json.specs.declared.members.Member.{Member}
use Rattle.mx_json.specs.declared.value.Json.{Json}
use Rattle.mx_json.specs.declared.value.Json.TheVariants as json
use Rattle.mx_event.specs.Forms.{bare_form, event_members, member, member_if, redacts_of, room_of, txn_for, unsigned_of}
use Rattle.mx_event.specs.declared.event.Event.{Event}
use Rattle.mx_event.specs.declared.event.Shown.{Shown}
use Rattle.mx_event.specs.declared.event.Txn.{Txn}
use Rattle.mx_copy.specs.Events.{event_in, plain_in, plain_of}
use Rattle.mx_copy.specs.Laws.{EventsReadBack}
use Rattle.mx_copy.specs.Looks.{object_of, read_if, seen_if}
use Rattle.mx_copy.specs.Shown.{client_event, cut, plain_event, txn_seen}
use Rattle.mx_copy.proofs.Looks.{held, last_held, last_passed, natural_back, next, object_back, passed, seen_back, text_back}

-- members that stand in an event, some of them optional
module _ (content : Json) (id : List ℕ) (ts : ℕ) (sender kind : List ℕ) (redacts room key unsigned : Option Json) where
  abbrev pub behind_sender : List (Member Json)
  behind_sender = member_if (codes "state_key") key ++ (member (codes "type") (json.Text kind) ∷ member_if (codes "unsigned") unsigned)

  abbrev pub behind_redacts : List (Member Json)
  behind_redacts = member_if (codes "room_id") room ++ (member (codes "sender") (json.Text sender) ∷ behind_sender)

  abbrev pub members : List (Member Json)
  members =
      member (codes "content") content
      ∷ member (codes "event_id") (json.Text id)
      ∷ member (codes "origin_server_ts") (json.Int (pos ts))
      ∷ (member_if (codes "redacts") redacts ++ behind_redacts)

  kind_there : value_at (codes "type") members ≡ Some (json.Text kind)
  kind_there = passed (codes "type") (codes "redacts") redacts behind_redacts refl ∙ passed (codes "type") (codes "room_id") room _ refl ∙ passed (codes "type") (codes "state_key") key _ refl

  sender_there : value_at (codes "sender") members ≡ Some (json.Text sender)
  sender_there = passed (codes "sender") (codes "redacts") redacts behind_redacts refl ∙ passed (codes "sender") (codes "room_id") room _ refl

  key_there : value_at (codes "state_key") members ≡ key
  key_there = passed (codes "state_key") (codes "redacts") redacts behind_redacts refl ∙ passed (codes "state_key") (codes "room_id") room _ refl
      ∙ held (codes "state_key") key _ refl (last_passed (codes "state_key") (codes "unsigned") unsigned refl)

  room_there : value_at (codes "room_id") members ≡ room
  room_there = passed (codes "room_id") (codes "redacts") redacts behind_redacts refl
      ∙ held (codes "room_id") room _ refl (passed (codes "room_id") (codes "state_key") key _ refl ∙ last_passed (codes "room_id") (codes "unsigned") unsigned refl)

  redacts_there : value_at (codes "redacts") members ≡ redacts
  redacts_there = held (codes "redacts") redacts behind_redacts refl (passed (codes "redacts") (codes "room_id") room _ refl
      ∙ passed (codes "redacts") (codes "state_key") key _ refl ∙ last_passed (codes "redacts") (codes "unsigned") unsigned refl)

  unsigned_there : value_at (codes "unsigned") members ≡ unsigned
  unsigned_there = passed (codes "unsigned") (codes "redacts") redacts behind_redacts refl ∙ passed (codes "unsigned") (codes "room_id") room _ refl
      ∙ passed (codes "unsigned") (codes "state_key") key _ refl ∙ last_held (codes "unsigned") unsigned refl

  plain_there : (state_key in_room : Option (List ℕ)) → seen_if text_of key ≡ Some state_key → seen_if text_of room ≡ Some in_room
      → plain_in members ≡ Some (record { id = id; kind = kind; state_key = state_key; sender = sender; content = content; ts = ts; room = in_room; redacts = redacts })
  plain_there state_key in_room key_is room_is =
      next _ _ id _ (text_back id)
      (next _ _ kind _ (ap (option_and_then text_of) kind_there ∙ text_back kind)
      (next _ _ state_key _ (ap (seen_if text_of) key_there ∙ key_is)
      (next _ _ sender _ (ap (option_and_then text_of) sender_there ∙ text_back sender)
      (next _ _ ts _ (natural_back ts)
      (next _ _ in_room _ (ap (seen_if text_of) room_there ∙ room_is)
      (next _ _ redacts _ (ap (seen_if Some) redacts_there ∙ itself redacts) refl))))))
    where
      itself : (o : Option Json) → seen_if Some o ≡ Some o
      itself None = refl
      itself (Some j) = refl

room_seen : (server : List ℕ) (with_room : Bool) (e : Event) → seen_if text_of (room_of server with_room e) ≡ Some (plain_event server with_room e).room
room_seen server true e = ap (option_map Some) (text_back (room_id_text server e.room))
room_seen server false e = refl

module _ (server : List ℕ) (with_room : Bool) (e : Event) where
  plain_back : (unsigned : List (Member Json)) → plain_in (event_members server with_room unsigned e) ≡ Some (plain_event server with_room e)
  plain_back unsigned = plain_there e.content (event_id_text server e.id) (cut e.ts) e.sender e.kind (redacts_of e) (room_of server with_room e) (option_map json.Text e.state_key) _
      e.state_key _ (seen_back text_of json.Text text_back e.state_key) (room_seen server with_room e)

  bare_back : plain_of (bare_form server with_room e) ≡ Some (plain_event server with_room e)
  bare_back = ap (option_and_then plain_in) (object_back (event_members server with_room [] e)) ∙ plain_back []

-- what is found in an `unsigned`
abbrev given : List (Member Json) → Option (List (Member Json))
given [] = None
given (m ∷ ms) = Some (m ∷ ms)

given_all : (ms : List (Member Json)) → unwrap_or (given ms) [] ≡ ms
given_all [] = refl
given_all (m ∷ ms) = refl

not_empty : (m : Member Json) (ms : List (Member Json)) → (length (m ∷ ms) == 0) ≡ false
not_empty m ms = grind (arith, nat_tests)

given_seen : (ms : List (Member Json)) → seen_if object_of (if length ms == 0 then None else Some (json.Object ms)) ≡ Some (given ms)
given_seen [] = refl
given_seen (m ∷ ms) = ap (λ b. seen_if object_of (if b then None else Some (json.Object (m ∷ ms)))) (not_empty m ms) ∙ ap (option_map Some) (object_back (m ∷ ms))

txn_seen_back : (device : ℕ) (o : Option Txn) → seen_if text_of (option_and_then (txn_for device) o) ≡ Some (option_and_then (txn_seen device) o)
txn_seen_back device None = refl
txn_seen_back device (Some txn) = by_test (txn.device == device)
  where
    by_test : (b : Bool) → seen_if text_of (if b then Some (json.Text txn.id) else None) ≡ Some (if b then Some txn.id else None)
    by_test true = ap (option_map Some) (text_back txn.id)
    by_test false = refl

because_seen : (server : List ℕ) (with_room : Bool) (o : Option Event) → seen_if plain_of (option_map (bare_form server with_room) o) ≡ Some (option_map (plain_event server with_room) o)
because_seen server with_room None = refl
because_seen server with_room (Some e) = ap (option_map Some) (bare_back server with_room e)

module _ (server : List ℕ) (with_room : Bool) (device : ℕ) (s : Shown) where
  because_there : value_at (codes "redacted_because") (unsigned_of server with_room device s) ≡ option_map (bare_form server with_room) s.because
  because_there = held (codes "redacted_because") (option_map (bare_form server with_room) s.because) _ refl (last_passed (codes "redacted_because") (codes "transaction_id") (option_and_then (txn_for device) s.event.txn) refl)

  txn_there : value_at (codes "transaction_id") (unsigned_of server with_room device s) ≡ option_and_then (txn_for device) s.event.txn
  txn_there = passed (codes "transaction_id") (codes "redacted_because") (option_map (bare_form server with_room) s.because) _ refl ∙ last_held (codes "transaction_id") (option_and_then (txn_for device) s.event.txn) refl

  event_back : event_in (event_members server with_room (unsigned_of server with_room device s) s.event) ≡ Some (client_event server with_room device s)
  event_back =
      let unsigned = unsigned_of server with_room device s in
      let e = s.event in
      next _ _ (plain_event server with_room e) _ (plain_back server with_room e unsigned)
      (next _ _ (given unsigned) _ (ap (seen_if object_of) (unsigned_there e.content (event_id_text server e.id) (cut e.ts) e.sender e.kind (redacts_of e) (room_of server with_room e) (option_map json.Text e.state_key) _) ∙ given_seen unsigned)
      (next _ _ (option_map (plain_event server with_room) s.because) _ (ap (λ ms. read_if plain_of (codes "redacted_because") ms) (given_all unsigned) ∙ ap (seen_if plain_of) because_there ∙ because_seen server with_room s.because)
      (next _ _ (option_and_then (txn_seen device) e.txn) _ (ap (λ ms. read_if text_of (codes "transaction_id") ms) (given_all unsigned) ∙ ap (seen_if text_of) txn_there ∙ txn_seen_back device e.txn)
      refl)))

pub events_read_back : EventsReadBack
events_read_back server with_room device s = ap (option_and_then event_in) (object_back (event_members server with_room (unsigned_of server with_room device s) s.event)) ∙ event_back server with_room device s
