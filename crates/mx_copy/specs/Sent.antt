-- What a reply to a sync and a page have for a client, by their own parts.
use Rattle.std.specs.Prelude.{ℕ, Bool, true, false, List, map, Option, Some, None, option_map}
use Rattle.std.specs.Str.{bytes_eq}
use Rattle.mx_ids.specs.Ids.{room_id_text}
use Rattle.mx_ids.specs.Page.{page_text}
use Rattle.mx_ids.specs.Sync.{sync_text}
use Rattle.mx_lazy.specs.declared.room_summary.Summary.{Summary}
use Rattle.mx_pager.specs.declared.asked.Bound.{Bound}
use Rattle.mx_pager.specs.declared.asked.Bound.TheVariants as bound
use Rattle.mx_pager.specs.declared.sent.Page.{Page}
use Rattle.mx_parts.specs.declared.part.RoomPart.{RoomPart}
use Rattle.mx_sync.specs.declared.sync_reply.InvitedRoom.{InvitedRoom}
use Rattle.mx_sync.specs.declared.sync_reply.JoinedRoom.{JoinedRoom}
use Rattle.mx_sync.specs.declared.sync_reply.LeftRoom.{LeftRoom}
use Rattle.mx_sync.specs.declared.sync_reply.Reply.{Reply}
use Rattle.mx_sync.specs.declared.sync_reply.RoomRest.{RoomRest}
use Rattle.mx_sync.specs.declared.sync_reply.RoomRest.TheVariants as rest
use Rattle.mx_unread.specs.declared.unread_counts.Counts.{Counts}
use Rattle.mx_window.specs.Lasts.{last_of}
use Rattle.mx_copy.specs.Events.{StrippedEvent}
use Rattle.mx_copy.specs.Pages.{ClientPage}
use Rattle.mx_copy.specs.Receipts.{marks_sent}
use Rattle.mx_copy.specs.Replies.{ClientReply}
use Rattle.mx_copy.specs.Rooms.{ClientCounts, ClientPart, ClientRoom, ClientSummary}
use Rattle.mx_copy.specs.Shown.{client_event, cut, stripped_event}

abbrev pub counts_sent : Counts → ClientCounts
counts_sent c = record { highlights = cut c.highlights; notifications = cut c.notifications }

abbrev pub whole_summary : Summary → ClientSummary
whole_summary s = record { heroes = Some s.heroes; invited = Some (cut s.invited); joined = Some (cut s.joined) }

abbrev pub summary_sent : Option Summary → ClientSummary
summary_sent None = record { heroes = None; invited = None; joined = None }
summary_sent (Some s) = whole_summary s

-- a room that is new to the client has a summary always
abbrev pub with_rest : List ℕ → ClientPart → RoomRest → ClientRoom
with_rest server part (rest.New view) = record {
  part = part;
  account = view.account;
  receipts = marks_sent server view.receipts;
  counts = counts_sent view.counts;
  summary = whole_summary view.summary;
}
with_rest server part (rest.Changed delta) = record {
  part = part;
  account = delta.account;
  receipts = marks_sent server delta.receipts;
  counts = counts_sent delta.counts;
  summary = summary_sent delta.summary;
}

-- `server` is the name of the server; `front` is the reply's front of events
module _ (server : List ℕ) (device front : ℕ) where
  abbrev pub part_sent : Bool → RoomPart → ClientPart
  part_sent after p = record {
    after = after;
    state = map (client_event server false device) p.state;
    timeline = map (client_event server false device) p.timeline;
    limited = p.limited;
    prev_batch = page_text (record { at = p.cut; e = front });
  }

  abbrev pub joined_sent : JoinedRoom → ClientRoom
  joined_sent r = with_rest server (part_sent r.after r.part) r.rest

  abbrev pub left_sent : LeftRoom → ClientPart
  left_sent r = part_sent r.after r.part

abbrev pub invited_sent : InvitedRoom → List StrippedEvent
invited_sent r = map stripped_event r.state

abbrev pub place_text : Bound → List ℕ
place_text (bound.Sync t) = sync_text t
place_text (bound.Page t) = page_text t

module _ (server : List ℕ) (device : ℕ) where
  -- rooms by the texts of their ids
  abbrev pub reply_sent : Reply → ClientReply
  reply_sent r = record {
    next = sync_text r.next;
    account = r.account;
    joined = λ text. option_map (joined_sent server device r.next.e) (last_of (λ (x : JoinedRoom). bytes_eq (room_id_text server x.room) text) r.joined);
    invited = λ text. option_map invited_sent (last_of (λ (x : InvitedRoom). bytes_eq (room_id_text server x.room) text) r.invited);
    left = λ text. option_map (left_sent server device r.next.e) (last_of (λ (x : LeftRoom). bytes_eq (room_id_text server x.room) text) r.left);
  }

  abbrev pub page_sent : Page → ClientPage
  page_sent p = record {
    start = place_text p.start;
    end = option_map page_text p.end;
    chunk = map (client_event server true device) p.chunk;
    state = option_map (map (client_event server true device)) p.members;
  }
