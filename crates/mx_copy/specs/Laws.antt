-- What a client reads of the JSON is what was sent.
use Rattle.std.specs.Prelude.{◌≡◌, ◌≢◌, ℕ, Bool, true, not, ◌&&◌, List, [], ◌∷◌, Option, Some, None, option_map}
use Rattle.std.specs.List.{list_any}
use Rattle.std.specs.Result.{result_ok}
use Rattle.mx_ids.specs.Ids.{room_id_text}
use Rattle.mx_ids.specs.declared.room_id.RoomId.{RoomId}
use Rattle.mx_json.specs.Reading.{read_json}
use Rattle.mx_json.specs.Texts.{json_text}
use Rattle.mx_json.specs.declared.value.Json.{Json}
use Rattle.mx_event.specs.Forms.{client_form}
use Rattle.mx_event.specs.Lawful.{same_room}
use Rattle.mx_event.specs.declared.event.Shown.{Shown}
use Rattle.mx_fold.specs.Lists.{Lists}
use Rattle.mx_fold.specs.Replies.{SyncAsk}
use Rattle.mx_pager.specs.Forms.{page_form}
use Rattle.mx_pager.specs.declared.sent.Page.{Page}
use Rattle.mx_sync.specs.Reads.{find_invited, find_joined, find_left}
use Rattle.mx_sync.specs.Replies as replies
use Rattle.mx_sync.specs.declared.sync_reply.InvitedRoom.{InvitedRoom}
use Rattle.mx_sync.specs.declared.sync_reply.JoinedRoom.{JoinedRoom}
use Rattle.mx_sync.specs.declared.sync_reply.LeftRoom.{LeftRoom}
use Rattle.mx_sync.specs.declared.sync_reply.Reply.{Reply}
use Rattle.mx_sync_json.specs.Replies.{reply_form}
use Rattle.mx_copy.specs.Events.{event_of}
use Rattle.mx_copy.specs.Looks.{◌>>=◌}
use Rattle.mx_copy.specs.Pages.{page_of}
use Rattle.mx_copy.specs.Replies.{reply_of}
use Rattle.mx_copy.specs.Sent.{invited_sent, joined_sent, left_sent, page_sent, reply_sent}
use Rattle.mx_copy.specs.Shown.{client_event}
use Rattle.mx_copy.specs.Writable.{IsWritable, PageFits, ReplyFits}

-- each event, whatever the device
abbrev pub EventsReadBack : Type 0
EventsReadBack = (server : List ℕ) (with_room : Bool) (device : ℕ) (s : Shown) → event_of (client_form server with_room device s) ≡ Some (client_event server with_room device s)

-- each reply to a sync
abbrev pub RepliesReadBack : Type 0
RepliesReadBack = (server : List ℕ) (device : ℕ) (r : Reply) → reply_of (reply_form server device r) ≡ Some (reply_sent server device r)

-- each page
abbrev pub PagesReadBack : Type 0
PagesReadBack = (server : List ℕ) (device : ℕ) (p : Page) → page_of (page_form server device p) ≡ Some (page_sent server device p)

-- ---- of their texts

-- what is read of a text
abbrev pub read_text : {A : Type 0} → (Json → Option A) → List ℕ → Option A
read_text see text = result_ok (read_json text) >>= see

abbrev pub ReplyTextsReadBack : Type 0
ReplyTextsReadBack = (server : List ℕ) (device : ℕ) (r : Reply) → IsWritable (reply_form server device r) → read_text reply_of (json_text (reply_form server device r)) ≡ Some (reply_sent server device r)

abbrev pub PageTextsReadBack : Type 0
PageTextsReadBack = (server : List ℕ) (device : ℕ) (p : Page) → IsWritable (page_form server device p) → read_text page_of (json_text (page_form server device p)) ≡ Some (page_sent server device p)

-- replies and pages whose JSON may be written
abbrev pub RepliesMayBeWritten : Type 0
RepliesMayBeWritten = (server : List ℕ) (device : ℕ) (r : Reply) → ReplyFits server r → IsWritable (reply_form server device r)

abbrev pub PagesMayBeWritten : Type 0
PagesMayBeWritten = (server : List ℕ) (device : ℕ) (p : Page) → PageFits server p → IsWritable (page_form server device p)

-- ---- rooms by their ids

-- no room stands twice
abbrev pub are_once : {R : Type 0} → (R → RoomId) → List R → Bool
are_once room_of [] = true
are_once room_of (r ∷ rs) = not (list_any (λ s. same_room (room_of s) (room_of r)) rs) && are_once room_of rs

pub record HasRoomsOnce (r : Reply) : Type 0 where
  pub joined : are_once (λ (x : JoinedRoom). x.room) r.joined ≡ true
  pub invited : are_once (λ (x : InvitedRoom). x.room) r.invited ≡ true
  pub left : are_once (λ (x : LeftRoom). x.room) r.left ≡ true

-- under the text of a room's id stands what the reply has of the room, if it has anything
pub record HasRoom (server : List ℕ) (device : ℕ) (r : Reply) (room : RoomId) : Type 0 where
  pub joined : (reply_sent server device r).joined (room_id_text server room) ≡ option_map (joined_sent server device r.next.e) (find_joined room r.joined)
  pub invited : (reply_sent server device r).invited (room_id_text server room) ≡ option_map invited_sent (find_invited room r.invited)
  pub left : (reply_sent server device r).left (room_id_text server room) ≡ option_map (left_sent server device r.next.e) (find_left room r.left)

abbrev pub RoomsAreFound : Type 0
RoomsAreFound = (server : List ℕ) (device : ℕ) (r : Reply) → HasRoomsOnce r → (room : RoomId) → HasRoom server device r room

-- under a text that is no room's id stands nothing
pub record HasNone (server : List ℕ) (device : ℕ) (r : Reply) (text : List ℕ) : Type 0 where
  pub joined : (reply_sent server device r).joined text ≡ None
  pub invited : (reply_sent server device r).invited text ≡ None
  pub left : (reply_sent server device r).left text ≡ None

abbrev pub OthersAreAbsent : Type 0
OthersAreAbsent = (server : List ℕ) (device : ℕ) (r : Reply) (text : List ℕ) → ((room : RoomId) → text ≢ room_id_text server room) → HasNone server device r text

-- the reply to a sync has no room twice
abbrev pub RepliesHaveRoomsOnce : Type 0
RepliesHaveRoomsOnce = (l : Lists) (user : List ℕ) (a : SyncAsk) → HasRoomsOnce (replies.reply_of l user a)
