-- Rooms in the reply to a sync (Client-Server API, Syncing), as a device sees them.
use Rattle.std.specs.Prelude.{ℕ, Bool, true, false, List, [], ◌∷◌, map, codes, Option, Some, unwrap_or}
use Rattle.mx_ids.specs.Ids.{room_id_text}
use Rattle.mx_ids.specs.Page.{page_text}
use Rattle.mx_json.specs.Keys.{with_member}
use Rattle.mx_json.specs.declared.members.Member.{Member}
use Rattle.mx_json.specs.declared.value.Json.{Json}
use Rattle.mx_json.specs.declared.value.Json.TheVariants as json
use Rattle.mx_event.specs.Forms.{client_form, member}
use Rattle.mx_event.specs.declared.event.Event.{Event}
use Rattle.mx_event.specs.declared.event.Shown.{Shown}
use Rattle.mx_lazy.specs.declared.room_summary.Summary.{Summary}
use Rattle.mx_parts.specs.declared.part.RoomPart.{RoomPart}
use Rattle.mx_receipt.specs.declared.receipt.Receipt.{Receipt}
use Rattle.mx_unread.specs.declared.unread_counts.Counts.{Counts}
use Rattle.mx_sync.specs.declared.sync_reply.InvitedRoom.{InvitedRoom}
use Rattle.mx_sync.specs.declared.sync_reply.JoinedRoom.{JoinedRoom}
use Rattle.mx_sync.specs.declared.sync_reply.LeftRoom.{LeftRoom}
use Rattle.mx_sync.specs.declared.sync_reply.RoomRest.{RoomRest}
use Rattle.mx_sync.specs.declared.sync_reply.RoomRest.TheVariants as rest
use Rattle.mx_sync_json.specs.Objects.{account_form, counts_form, events_form, single, summary_form}
use Rattle.mx_sync_json.specs.Receipts.{ephemeral_form}

abbrev pub receipts_of : RoomRest → List Receipt
receipts_of (rest.New view) = view.receipts
receipts_of (rest.Changed delta) = delta.receipts

abbrev pub account_of : RoomRest → List (List ℕ × Json)
account_of (rest.New view) = view.account
account_of (rest.Changed delta) = delta.account

abbrev pub counts_of : RoomRest → Counts
counts_of (rest.New view) = view.counts
counts_of (rest.Changed delta) = delta.counts

-- the summary, if it is sent: of a room that is new to the client always
abbrev pub summary_of : RoomRest → Option Summary
summary_of (rest.New view) = Some view.summary
summary_of (rest.Changed delta) = delta.summary

-- the key of the state: by whether it is that at the timeline's end
abbrev pub state_name : Bool → List ℕ
state_name true = codes "state_after"
state_name false = codes "state"

-- a reply's front is the position at which `prev_batch` is read
module _ (server : List ℕ) (device front : ℕ) where
  abbrev pub shown_form : List Shown → List Json
  shown_form events = map (client_form server false device) events

  abbrev pub state_form : RoomPart → Json
  state_form part = events_form (shown_form part.state)

  abbrev pub timeline_form : RoomPart → Json
  timeline_form part = json.Object (
      member (codes "events") (json.List (shown_form part.timeline))
      ∷ member (codes "limited") (json.Bool part.limited)
      ∷ member (codes "prev_batch") (json.Text (page_text (record { at = part.cut; e = front })))
      ∷ [])

  -- the members of a joined room up to its state
  abbrev pub data_and_state : JoinedRoom → List (Member Json)
  data_and_state r =
      member (codes "account_data") (account_form (account_of r.rest))
      ∷ member (codes "ephemeral") (ephemeral_form server (receipts_of r.rest))
      ∷ member (state_name r.after) (state_form r.part)
      ∷ []

  abbrev pub joined_form : JoinedRoom → Json
  joined_form r = json.Object (
      member (codes "account_data") (account_form (account_of r.rest))
      ∷ member (codes "ephemeral") (ephemeral_form server (receipts_of r.rest))
      ∷ member (state_name r.after) (state_form r.part)
      ∷ member (codes "summary") (summary_form (summary_of r.rest))
      ∷ member (codes "timeline") (timeline_form r.part)
      ∷ member (codes "unread_notifications") (counts_form (counts_of r.rest))
      ∷ [])

  abbrev pub left_form : LeftRoom → Json
  left_form r = json.Object (member (state_name r.after) (state_form r.part) ∷ member (codes "timeline") (timeline_form r.part) ∷ [])

  abbrev pub with_joined : List (Member Json) → JoinedRoom → List (Member Json)
  with_joined ms r = with_member (room_id_text server r.room) (joined_form r) ms

  abbrev pub with_left : List (Member Json) → LeftRoom → List (Member Json)
  with_left ms r = with_member (room_id_text server r.room) (left_form r) ms

-- an event of the stripped state has four members
abbrev pub bare_form : Event → Json
bare_form e = json.Object (
    member (codes "content") e.content
    ∷ member (codes "sender") (json.Text e.sender)
    ∷ member (codes "state_key") (json.Text (unwrap_or e.state_key []))
    ∷ member (codes "type") (json.Text e.kind)
    ∷ [])

abbrev pub stripped_form : Shown → Json
stripped_form s = bare_form s.event

abbrev pub invited_form : InvitedRoom → Json
invited_form r = single (codes "invite_state") (events_form (map stripped_form r.state))

abbrev pub with_invited : List ℕ → List (Member Json) → InvitedRoom → List (Member Json)
with_invited server ms r = with_member (room_id_text server r.room) (invited_form r) ms
