-- What a client takes from the answers to a device, in mx_fold's words: each reply to a sync, and each page of a gap.
use Rattle.std.specs.Prelude.{ℕ, ◌&&◌, List, [], ◌∷◌, Bool, false, cond, Option, Some, None, nat_eq, unwrap_or}
use Rattle.std.specs.Str.{bytes_eq}
use Rattle.mx_ids.specs.declared.page_token.PageToken.{PageToken}
use Rattle.mx_ids.specs.declared.room_id.RoomId.{RoomId}
use Rattle.mx_ids.specs.declared.sync_token.SyncToken.{SyncToken}
use Rattle.mx_event.specs.declared.event.Event.{Event}
use Rattle.mx_filter.specs.declared.parts.Filter.{Filter}
use Rattle.mx_folding.specs.Parts.{Part}
use Rattle.mx_fold.specs.Clients.{Exchange}
use Rattle.mx_fold.specs.Lists.{Histories, Lists, lists_of}
use Rattle.mx_fold.specs.Replies as fold
use Rattle.mx_fold.specs.Replies.{Else, PassedOver, Pages, Replied, Showed, Syncs}
use Rattle.mx_pager.specs.Laws.{page_from}
use Rattle.mx_pager.specs.declared.asked.Bound.{Bound}
use Rattle.mx_pager.specs.declared.asked.Bound.TheVariants as bound
use Rattle.mx_rest.specs.declared.room_view.RoomDelta.{RoomDelta}
use Rattle.mx_rest.specs.declared.room_view.RoomView.{RoomView}
use Rattle.mx_sync.specs.Reads.{left_sent, told_in}
use Rattle.mx_sync.specs.declared.sync_reply.Reply.{Reply}
use Rattle.mx_engine.specs.UserReads.Filters.{filter_for}
use Rattle.mx_ask.specs.declared.ask.Ask.{Ask}
use Rattle.mx_ask.specs.declared.ask.Ask.TheVariants as ask
use Rattle.mx_ask.specs.declared.ask.Request.{Request}
use Rattle.mx_ask.specs.declared.ask.Who.{Who}
use Rattle.mx_ask.specs.declared.said.Said.{Said}
use Rattle.mx_ask.specs.declared.said.Said.TheVariants as said
use Rattle.mx_engine.specs.Answers.{counts}
use Rattle.mx_engine.specs.Aims.Asked.{Site, room_of}
use Rattle.mx_engine.specs.Exchanges.{first_of}
use Rattle.mx_engine.specs.Acts.Reads.{sync_ask}
use Rattle.mx_engine.specs.declared.answered.Answered.{Answered}

-- ---- what is asked

-- a sync by this filter, if there is one
abbrev pub sync_asked : Option SyncToken → Bool → Bool → Option Filter → fold.Ask
sync_asked since full after None = Else
sync_asked since full after (Some filter) = Syncs (sync_ask since full after filter)

abbrev pub page_back : RoomId → PageToken → Option SyncToken → ℕ → Filter → fold.Ask
page_back room from to limit filter = Pages (record { room = room; from_at = from.at; from_cut = from.e; to = to; limit = limit; filter = filter.selection })

-- back to a sync token, or to the room's start
abbrev pub page_to : RoomId → PageToken → Option Bound → ℕ → Filter → fold.Ask
page_to room from None limit filter = page_back room from None limit filter
page_to room from (Some (bound.Sync to)) limit filter = page_back room from (Some to) limit filter
page_to room from (Some (bound.Page to)) limit filter = Else

-- from a page token
abbrev pub page_from_bound : RoomId → Option Bound → Option Bound → ℕ → Filter → fold.Ask
page_from_bound room None to limit filter = Else
page_from_bound room (Some (bound.Sync from)) to limit filter = Else
page_from_bound room (Some (bound.Page from)) to limit filter = page_to room from to limit filter

-- a page of a gap goes backward
abbrev pub page_asked : Option RoomId → Bool → Option Bound → Option Bound → ℕ → Filter → fold.Ask
page_asked None backward from to limit filter = Else
page_asked (Some room) backward from to limit filter = cond backward (page_from_bound room from to limit filter) Else

-- what a request asks, on what the streams cover
abbrev pub asked_of : Site → Lists → Who → Ask → fold.Ask
asked_of site l who (ask.Sync since filter full after timeout) = sync_asked since full after (filter_for l who.user filter)
asked_of site l who (ask.Messages room backward from to limit filter) = page_asked (room_of site room) backward from to limit filter
asked_of site l who other = Else

-- ---- what is answered

-- nothing is sent
abbrev pub no_part : Part Event
no_part = record { limited = false; cut = 0; state = []; sent = [] }

-- a reply's lists, as what is said of each room
abbrev pub replied : Reply → fold.Reply RoomView RoomDelta
replied r = record { next = r.next; rooms = told_in r; left = λ room. unwrap_or (left_sent r room) no_part; account = r.account }

abbrev pub heard_reply : fold.SyncAsk → Said → fold.Said RoomView RoomDelta
heard_reply asked (said.Synced r) = Replied asked (replied r)
heard_reply asked other = PassedOver

abbrev pub heard_page : fold.PageAsk → Said → fold.Said RoomView RoomDelta
heard_page asked (said.Paged p) = Showed asked (page_from asked.from_at p)
heard_page asked other = PassedOver

-- what a client takes of an answer
abbrev pub heard : fold.Ask → Said → fold.Said RoomView RoomDelta
heard (Syncs asked) told = heard_reply asked told
heard (Pages asked) told = heard_page asked told
heard Else told = PassedOver

-- ---- the answers to a device

-- the request is the device's
abbrev pub is_of_device : List ℕ → ℕ → Who → Bool
is_of_device user device who = nat_eq who.device device && bytes_eq who.user user

module _ (site : Site) (user : List ℕ) (device : ℕ) (all : Histories) where
  -- of an answer to another device nothing is taken
  abbrev pub exchange_of : Request → Answered → Exchange RoomView RoomDelta
  exchange_of r a =
      let l : Lists = lists_of (first_of all (counts a.mark)) in
      record { device = device; lists = l; said = cond (is_of_device user device r.who) (heard (asked_of site l r.who r.ask) a.said) PassedOver }

  abbrev pub exchanges_of : List Request → List Answered → List (Exchange RoomView RoomDelta)
  exchanges_of [] answers = []
  exchanges_of (r ∷ rs) [] = []
  exchanges_of (r ∷ rs) (a ∷ answers) = exchange_of r a ∷ exchanges_of rs answers
