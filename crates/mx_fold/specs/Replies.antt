-- *Reply*, *Page* and *Answer*, as far as a chain reads them, over the lists at a mark.
use Rattle.std.specs.Prelude.{ℕ, Bool, true, cond, ◌&&◌, nat_le, List, Option, Some, None}
use Rattle.std.specs.List.{list_any}
use Rattle.mx_ids.specs.declared.room_id.RoomId.{RoomId}
use Rattle.mx_ids.specs.declared.sync_token.SyncToken.{SyncToken}
use Rattle.mx_json.specs.declared.value.Json.{Json}
use Rattle.mx_event.specs.declared.event.Event.{Event}
use Rattle.mx_folding.specs.Parts.{Part, Page, Gap, gap_at, page_of}
use Rattle.mx_folding.specs.Stories.{Sync, Told, told}
use Rattle.mx_folding.specs.Visible.{is_visible}
use Rattle.mx_view.specs.Left.{left_part}
use Rattle.mx_view.specs.Readings.{viewer_of}
use Rattle.mx_view.specs.Rooms.{Key, hero_keys, room_of}
use Rattle.mx_view.specs.Tokens.{tokens, is_before, next_token}
use Rattle.mx_filter.specs.Sieves.{sieve_of}
use Rattle.mx_filter.specs.declared.parts.Selection.{Selection}
use Rattle.mx_fold.specs.Lists.{Lists, fronts_of, events_in}
use Rattle.mx_fold.specs.Servers.{Server, story}
use Rattle.mx_fold.specs.Accounts.{account_sent}

-- how a sync asks: for the state after the timeline, with a limit of the timeline, with full_state
pub record Extent : Type 0 where
  pub after : Bool
  pub limit : ℕ
  pub full : Bool

pub record SyncAsk : Type 0 where
  pub filter : Selection
  pub since : Option SyncToken
  pub extent : Extent

-- redundant members and left rooms are asked for by the filter
abbrev pub sync_in : Selection → Extent → Sync
sync_in f extent = record { after = extent.after; limit = extent.limit; full = extent.full; redundant = f.redundant; leave = f.include_leave }

abbrev pub sync_of : SyncAsk → Sync
sync_of ask = sync_in ask.filter ask.extent

-- a backward page: `from` is the page token p{at}_{cut}, `to` a sync token or the room's start
pub record PageAsk : Type 0 where
  pub room : RoomId
  pub from_at : ℕ
  pub from_cut : ℕ
  pub to : Option SyncToken
  pub limit : ℕ
  pub filter : Selection

-- what a call asks
pub data Ask : Type 0 where
  Syncs : SyncAsk → Ask
  Pages : PageAsk → Ask
  Else : Ask

-- what is said of each room, and what of those of which that is `Left`
pub record Reply (V D : Type 0) : Type 0 where
  pub next : SyncToken
  pub rooms : RoomId → Told Event V D
  pub left : RoomId → Part Event
  pub account : List (List ℕ × Json)

-- what was asked and answered: a sync with its reply, a backward page, or anything else
pub data Said (V D : Type 0) : Type 0 where
  Replied : SyncAsk → Reply V D → Said V D
  Showed : PageAsk → Page Event → Said V D
  PassedOver : Said V D

abbrev pub to_at : Option SyncToken → ℕ
to_at None = 0
to_at (Some t) = t.e

-- the gap that a page is asked for
abbrev pub asked_gap : PageAsk → Gap
asked_gap ask = gap_at (to_at ask.to) ask.from_at ask.from_cut

-- the token isn't ahead of the fronts
abbrev pub is_behind : Option SyncToken → SyncToken → Bool
is_behind None fronts = true
is_behind (Some t) fronts = is_before t fronts

module _ {V D : Type 0} (w : Server V D) (lists : Lists) (user : List ℕ) where
  -- the heroes of the summary that is sent of a room
  abbrev pub heroes_in : SyncAsk → RoomId → Key → Bool
  heroes_in ask room = hero_keys (w.heroes user ask.filter room ask.since lists)

  -- its token
  abbrev pub token_of : SyncAsk → SyncToken
  token_of ask = next_token ask.since (fronts_of lists)

  -- *Reply*
  abbrev pub reply_of : SyncAsk → Reply V D
  reply_of ask = record {
    next = token_of ask;
    rooms = λ room. told tokens (story w lists user ask.filter room) (sync_of ask) (heroes_in ask room) (token_of ask).b ask.since (token_of ask);
    left = λ room. left_part (sieve_of w.name ask.filter room) user (events_in lists room) (sync_of ask) (token_of ask).b ask.since (fronts_of lists).e;
    account = account_sent w lists.accounts user ask.filter ask.since (fronts_of lists).a;
  }

  -- *Page*
  abbrev pub page_asked : PageAsk → Page Event
  page_asked ask =
      let es : List Event = events_in lists ask.room in
      page_of (room_of (sieve_of w.name ask.filter ask.room) user es) es ask.limit (fronts_of lists).e (asked_gap ask)

  -- an event of the room is visible
  abbrev pub sees_room : RoomId → Bool
  sees_room room = list_any (is_visible (viewer_of user) (events_in lists room) (fronts_of lists).e) (events_in lists room)

  -- *Answer*: a token that is ahead is refused, and so is a page of a room of which nothing is visible
  abbrev pub answer_to : Ask → Said V D
  answer_to (Syncs ask) = cond (is_behind ask.since (fronts_of lists)) (Replied ask (reply_of ask)) PassedOver
  answer_to (Pages ask) = cond (sees_room ask.room && (nat_le ask.from_cut (fronts_of lists).e && is_behind ask.to (fronts_of lists)))
      (Showed ask (page_asked ask)) PassedOver
  answer_to Else = PassedOver
