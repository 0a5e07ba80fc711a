-- Redactions, in replies and in what a client of one room holds.
use Rattle.std.specs.Prelude.{◌≡◌, ℕ, true, false, List, [], ◌∷◌, ◌++◌, Option, Some, None}
use Rattle.mx_ids.specs.declared.sync_token.SyncToken.{SyncToken}
use Rattle.mx_event.specs.Kinds.{member_type}
use Rattle.mx_event.specs.Redaction.{redacted}
use Rattle.mx_event.specs.declared.event.Event.{Event}
use Rattle.mx_folding.specs.Clients.{ClientRoom, held}
use Rattle.mx_folding.specs.Stories.{Told, Nothing, Anew, More, Invited, Left, Story}
use Rattle.mx_folding.specs.Chains.{new_client, Turn, Synced, after_turns}
use Rattle.mx_view.specs.Rooms.{Key, story_by}
use Rattle.mx_view.specs.Tokens.{tokens}
use Rattle.mx_fold_rows.specs.Events.{alice, bob, joined_room, joins, joins_named, leaves, message, renamed_room, redacted_room}
use Rattle.mx_fold_rows.specs.Said.{said}
use Rattle.mx_fold_rows.specs.Heard.{everything, no_rest, token, asks, nobody, Change, replied, says}

-- alice's reply has the redaction and no state
abbrev pub RedactionSent : Type 0
RedactionSent = says alice renamed_room everything (asks 10) nobody (Some (token 11 11)) (token 12 11) ≡ Change false 11 [] (12 ∷ [])

-- the hidden redaction isn't in bob's reply, and is no break
abbrev pub RedactionHidden : Type 0
RedactionHidden = says bob redacted_room everything (asks 10) nobody (Some (token 16 8)) (token 19 8) ≡ Change false 16 [] (17 ∷ 19 ∷ [])

abbrev pub sent_in : Told Event ℕ ℕ → List Event
sent_in Nothing = []
sent_in (Anew part view) = part.sent
sent_in (More part delta) = part.sent
sent_in (Invited ids) = []
sent_in Left = []

-- a first sync shows 16 redacted, though its redaction is hidden
abbrev pub SentRedacted : Type 0
SentRedacted = sent_in (replied bob redacted_room everything (asks 10) nobody None (token 19 19))
    ≡ joins 14 bob ∷ message 15 alice ∷ redacted (message 16 alice) ∷ leaves 17 bob ∷ joins 19 bob ∷ []

-- at the front 17 nothing has redacted it
abbrev pub SentBefore : Type 0
SentBefore = sent_in (replied alice redacted_room everything (asks 2) nobody None (token 17 17)) ≡ message 16 alice ∷ leaves 17 bob ∷ []

abbrev pub one_room : List ℕ → List Event → Unit {0} → Story Event Key ℕ ℕ SyncToken
one_room user es x = story_by said everything true user es no_rest

abbrev pub synced : ℕ → ℕ → Turn (Unit {0}) Event Key SyncToken
synced e b = Synced (asks 10) (λ x. nobody) (token e b)

-- the room that a client holds after these syncs
abbrev pub room_after : List ℕ → List Event → List (Turn (Unit {0}) Event Key SyncToken) → Option (ClientRoom Event Key × ℕ)
room_after user es turns = ((after_turns tokens (one_room user es) (new_client (Unit {0}) Event Key ℕ SyncToken) turns).rooms tt).joined

abbrev pub copies : Option (ClientRoom Event Key × ℕ) → List Event
copies None = []
copies (Some p) = held p.0.timeline

abbrev pub under : Key → Option (ClientRoom Event Key × ℕ) → Option Event
under k None = None
under k (Some p) = p.0.state k

-- alice's copy of bob's member event is redacted, in the timeline and in the state
abbrev pub CopyRedacted : Type 0
CopyRedacted = under (member_type, bob) (room_after alice renamed_room (synced 11 11 ∷ synced 12 11 ∷ [])) ≡ Some (redacted (joins_named 11 bob))

-- after syncs at 8, 16 and 19 bob's copy of 16 stays as it was
abbrev pub CopyStays : Type 0
CopyStays = copies (room_after bob redacted_room (synced 8 8 ∷ synced 16 8 ∷ synced 19 8 ∷ []))
    ≡ joined_room ++ joins 8 bob ∷ joins 14 bob ∷ message 15 alice ∷ message 16 alice ∷ leaves 17 bob ∷ joins 19 bob ∷ []
