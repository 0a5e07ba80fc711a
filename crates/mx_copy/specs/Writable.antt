-- JSON whose text reads back, and replies and pages whose JSON is so.
use Rattle.std.specs.Prelude.{◌≡◌, ◌≤◌, ℕ, true, List}
use Rattle.std.specs.List.{AllByRecursion}
use Rattle.std.specs.Option.{option_to_list}
use Rattle.std.specs.Str.{is_utf8}
use Rattle.serde_json.specs.Data.{depth}
use Rattle.serde_json.specs.Read.{max_depth}
use Rattle.mx_json.specs.Laws.{IsInRange, is_formed}
use Rattle.mx_json.specs.Values.{data_of}
use Rattle.mx_json.specs.declared.value.Json.{Json}
use Rattle.mx_event.specs.declared.event.Event.{Event}
use Rattle.mx_event.specs.declared.event.Shown.{Shown}
use Rattle.mx_event.specs.declared.event.Txn.{Txn}
use Rattle.mx_lazy.specs.declared.room_summary.Summary.{Summary}
use Rattle.mx_pager.specs.declared.sent.Page.{Page}
use Rattle.mx_parts.specs.declared.part.RoomPart.{RoomPart}
use Rattle.mx_receipt.specs.declared.receipt.Receipt.{Receipt}
use Rattle.mx_sync.specs.declared.sync_reply.InvitedRoom.{InvitedRoom}
use Rattle.mx_sync.specs.declared.sync_reply.JoinedRoom.{JoinedRoom}
use Rattle.mx_sync.specs.declared.sync_reply.LeftRoom.{LeftRoom}
use Rattle.mx_sync.specs.declared.sync_reply.Reply.{Reply}
use Rattle.mx_sync_json.specs.Rooms.{account_of, receipts_of, summary_of}

-- numbers are in range, texts are UTF-8, keys are in order, and it nests at most so deep
pub record Fits (levels : ℕ) (j : Json) : Type 0 where
  pub in_range : IsInRange j
  pub formed : is_formed (data_of j) ≡ true
  pub shallow : depth (data_of j) ≤ levels

-- its text reads back
abbrev pub IsWritable : Json → Type 0
IsWritable j = Fits max_depth j

-- how deep contents may nest: nine levels of a reply stand round the content of a redaction that is shown with an event
abbrev pub content_levels : ℕ
content_levels = 118

abbrev pub IsText : List ℕ → Type 0
IsText text = is_utf8 text ≡ true

abbrev pub ContentFits : Json → Type 0
ContentFits content = Fits content_levels content

pub record EventFits (e : Event) : Type 0 where
  pub kind : IsText e.kind
  pub state_key : AllByRecursion IsText (option_to_list e.state_key)
  pub sender : IsText e.sender
  pub content : ContentFits e.content

pub record ShownFits (s : Shown) : Type 0 where
  pub event : EventFits s.event
  pub because : AllByRecursion EventFits (option_to_list s.because)
  pub txn : AllByRecursion (λ (txn : Txn). IsText txn.id) (option_to_list s.event.txn)

pub record PartFits (p : RoomPart) : Type 0 where
  pub state : AllByRecursion ShownFits p.state
  pub timeline : AllByRecursion ShownFits p.timeline

-- a type with its content
pub record TypedFits (p : List ℕ × Json) : Type 0 where
  pub kind : IsText p.0
  pub content : ContentFits p.1

pub record JoinedFits (r : JoinedRoom) : Type 0 where
  pub part : PartFits r.part
  pub account : AllByRecursion TypedFits (account_of r.rest)
  pub users : AllByRecursion (λ (x : Receipt). IsText x.user) (receipts_of r.rest)
  pub heroes : AllByRecursion (λ (s : Summary). AllByRecursion IsText s.heroes) (option_to_list (summary_of r.rest))

-- what is asked of a reply, and of the name of the server
pub record ReplyFits (server : List ℕ) (r : Reply) : Type 0 where
  pub server_name : IsText server
  pub joined : AllByRecursion JoinedFits r.joined
  pub invited : AllByRecursion (λ (x : InvitedRoom). AllByRecursion ShownFits x.state) r.invited
  pub left : AllByRecursion (λ (x : LeftRoom). PartFits x.part) r.left
  pub account : AllByRecursion TypedFits r.account

pub record PageFits (server : List ℕ) (p : Page) : Type 0 where
  pub server_name : IsText server
  pub chunk : AllByRecursion ShownFits p.chunk
  pub members : AllByRecursion (AllByRecursion ShownFits) (option_to_list p.members)
