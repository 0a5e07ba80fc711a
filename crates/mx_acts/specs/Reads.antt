-- What a request that reads is told, on what the streams cover.
use Rattle.std.specs.Prelude.{ℕ, List, Bool, Option, Some, None, length, if◌then◌else◌}
use Rattle.mx_ask.specs.declared.ask.FilterAsk.{FilterAsk}
use Rattle.mx_ask.specs.declared.refusal.Refusal.TheVariants as refusal
use Rattle.mx_ask.specs.declared.said.Said.{Said}
use Rattle.mx_ask.specs.declared.said.Said.TheVariants as said
use Rattle.mx_filter.specs.declared.parts.Filter.{Filter}
use Rattle.mx_fold.specs.Lists.{Lists, events_in, fronts_of}
use Rattle.mx_fold.specs.Replies.{SyncAsk}
use Rattle.mx_ids.specs.declared.room_id.RoomId.{RoomId}
use Rattle.mx_ids.specs.declared.sync_token.SyncToken.{SyncToken}
use Rattle.mx_pager.specs.Asks.{asks_ahead}
use Rattle.mx_pager.specs.Pages.{page_of, sees}
use Rattle.mx_pager.specs.declared.asked.Bound.{Bound}
use Rattle.mx_pager.specs.declared.asked.PageAsk.{PageAsk}
use Rattle.mx_snapshot.specs.declared.snapshot.Snapshot.{Snapshot}
use Rattle.mx_ask.specs.Sync.Asks.{ahead_of, held}
use Rattle.mx_ask.specs.Sync.Replies.{reply_of}
use Rattle.mx_aims.specs.Stored.{there}
use Rattle.mx_user_reads.specs.Filters.{filter_for}

-- a position of a token that lies after its stream's front, with that front, is told; else this is
abbrev pub unless_ahead : Option (ℕ × ℕ) → Said → Said
unless_ahead None told = told
unless_ahead (Some p) told = said.Refused (refusal.TokenAhead p.0 p.1)

-- of a room this is told
abbrev pub of_room : (RoomId → Said) → Option RoomId → Said
of_room told None = said.Refused refusal.NotFound
of_room told (Some room) = told room

-- ---- a page

abbrev pub snapshot_of : Lists → Snapshot
snapshot_of l = record { events = l.events; receipts = l.receipts; accounts = l.accounts }

abbrev pub page_ask : Bool → Option Bound → Option Bound → ℕ → Filter → RoomId → PageAsk
page_ask backward from to limit filter room = record { room = room; backward = backward; from = from; to = to; limit = limit; filter = held filter }

-- to one who sees an event of the room
abbrev pub page_told : Lists → List ℕ → PageAsk → Said
page_told l user ask =
    unless_ahead (asks_ahead (snapshot_of l) ask)
    (if sees user (events_in l ask.room) (length l.events) then said.Paged (page_of l.events user ask) else said.Refused refusal.Forbidden)

-- `GET /rooms/{roomId}/messages`
unfoldable pub page_said : Lists → List ℕ → Option RoomId → Bool → Option Bound → Option Bound → ℕ → Filter → Said
page_said l user room backward from to limit filter = of_room (λ r. page_told l user (page_ask backward from to limit filter r)) (there l room)

-- ---- a sync

-- with the whole state, where the first is true, and with the state at the end of each timeline, where the second is
abbrev pub sync_ask : Option SyncToken → Bool → Bool → Filter → SyncAsk
sync_ask since full after filter = record { filter = filter.selection; since = since; extent = record { after = after; limit = filter.limit; full = full } }

abbrev pub sync_told : Lists → List ℕ → SyncAsk → Said
sync_told l user ask = unless_ahead (ahead_of ask.since (fronts_of l)) (said.Synced (reply_of l user ask))

abbrev pub sync_by : Lists → List ℕ → Option SyncToken → Bool → Bool → Option Filter → Said
sync_by l user since full after None = said.Refused refusal.NotFound
sync_by l user since full after (Some filter) = sync_told l user (sync_ask since full after filter)

-- `GET /sync`, by the filter that is asked
unfoldable pub sync_said : Lists → List ℕ → Option SyncToken → FilterAsk → Bool → Bool → Said
sync_said l user since filter full after = sync_by l user since full after (filter_for l user filter)
