-- What a client takes of an answer is what mx_fold answers, but for the parts of rooms that a reply doesn't list as left.
use Rattle.std.proofs.Common.{◌≡◌, if◌then◌else◌, ℕ, ◌&&◌, ◌⊎◌, List, [], ◌∷◌, Bool, true, false, cond, not, Option, Some, None, refl, ap, inl, inr}
use Rattle.std.specs.Prelude.{⊤, length, nat_le, option_map, unwrap_or}
use Rattle.std.specs.List.{list_any}
use Rattle.std.specs.Option.{is_some}
use Rattle.std.proofs.lemmas.Bool.{cases_Bool, true≢false}
use Rattle.mx_ids.specs.declared.page_token.PageToken.{PageToken}
use Rattle.mx_ids.specs.declared.room_id.RoomId.{RoomId}
use Rattle.mx_ids.specs.declared.sync_token.SyncToken.{SyncToken}
use Rattle.mx_event.specs.Lawful as event
use Rattle.mx_event.specs.Shown.{position_of}
use Rattle.mx_event.specs.declared.event.Event.{Event}
use Rattle.mx_filter.specs.declared.parts.Filter.{Filter}
use Rattle.mx_folding.specs.Parts.{Page, Part}
use Rattle.mx_fold.specs.Lists.{Lists, events_in, fronts_of}
use Rattle.mx_fold.specs.Replies as fold
use Rattle.mx_fold.specs.Replies.{Else, PassedOver, Pages, Replied, Showed, Syncs, is_behind}
use Rattle.mx_pager.specs.Asks.{asks_ahead}
use Rattle.mx_pager.specs.Laws.{page_from}
use Rattle.mx_pager.specs.Pages.{page_of, sees}
use Rattle.mx_pager.specs.declared.asked.Bound.{Bound}
use Rattle.mx_pager.specs.declared.asked.Bound.TheVariants as bound
use Rattle.mx_pager.proofs.Same.{pages_are}
use Rattle.mx_pager.specs.declared.asked.PageAsk.{PageAsk}
use Rattle.mx_pager.specs.declared.sent.Page as pager
use Rattle.mx_rest.specs.declared.room_view.RoomDelta.{RoomDelta}
use Rattle.mx_rest.specs.declared.room_view.RoomView.{RoomView}
use Rattle.mx_engine.specs.RoomReads.Places.{has_room}
use Rattle.mx_sync.specs.Asks as sync
use Rattle.mx_sync.specs.Reads.{IsReply, left_sent}
use Rattle.mx_sync.specs.Replies.{reply_of, server_for}
use Rattle.mx_sync.specs.declared.sync_reply.Reply.{Reply}
use Rattle.mx_sync.proofs.Told.{replies_are}
use Rattle.mx_window.specs.Windows.{stand_from}
use Rattle.mx_engine.specs.UserReads.Filters.{filter_for}
use Rattle.mx_ask.specs.declared.refusal.Refusal.TheVariants as refusal
use Rattle.mx_ask.specs.declared.ask.FilterAsk.{FilterAsk}
use Rattle.mx_ask.specs.declared.said.Said.{Said}
use Rattle.mx_ask.specs.declared.said.Said.TheVariants as said
use Rattle.mx_engine.specs.Acts.Reads.{of_room, page_ask, page_said, page_told, snapshot_of, sync_ask, sync_by, sync_said, unless_ahead}
use Rattle.mx_engine.specs.Aims.Stored.{there}
use Rattle.mx_chains.specs.Heard.{heard, heard_page, no_part, page_asked, page_back, page_from_bound, page_to, replied, sync_asked}
use Rattle.mx_chains.proofs.Behind.{page_behind, sync_behind, to_bound}

abbrev Told : Type 0
Told = fold.Said RoomView RoomDelta

-- a part of a room is nothing, or that of the other reply
pub record IsTaken (r q : fold.Reply RoomView RoomDelta) : Type 0 where
  pub next : r.next ≡ q.next
  pub rooms : (room : RoomId) → r.rooms room ≡ q.rooms room
  pub left : (room : RoomId) → (r.left room ≡ no_part) ⊎ (r.left room ≡ q.left room)
  pub account : r.account ≡ q.account

abbrev pub Alike : Told → Told → Type 0
Alike (Replied a r) (Replied b q) = (a ≡ b) × IsTaken r q
Alike (Replied a r) (Showed b p) = ⊥
Alike (Replied a r) PassedOver = ⊥
Alike (Showed a p) (Replied b q) = ⊥
Alike (Showed a p) (Showed b q) = (a ≡ b) × (p ≡ q)
Alike (Showed a p) PassedOver = ⊥
Alike PassedOver (Replied b q) = ⊥
Alike PassedOver (Showed b q) = ⊥
Alike PassedOver PassedOver = ⊤

-- ---- syncs

left_or : (o : Option (Part Event)) (part : Part Event) → ((p : Part Event) → o ≡ Some p → p ≡ part) → (unwrap_or o no_part ≡ no_part) ⊎ (unwrap_or o no_part ≡ part)
left_or None part same = inl refl
left_or (Some p) part same = inr (same p refl)

taken : (r : Reply) (q : fold.Reply RoomView RoomDelta) → IsReply r q → IsTaken (replied r) q
taken r q is = record {
  next = is.next;
  rooms = is.rooms;
  left = λ room. left_or (left_sent r room) (q.left room) (is.left room);
  account = is.account;
}

module _ (l : Lists) (user : List ℕ) (placed : stand_from position_of 1 l.events ≡ true) where
  sync_taken : (a : fold.SyncAsk) (o : Option (ℕ × ℕ)) (b : Bool) → b ≡ not (is_some o)
      → Alike (heard (Syncs a) (unless_ahead o (said.Synced (reply_of l user a)))) (cond b (Replied a (fold.reply_of (server_for user) l user a)) PassedOver)
  sync_taken a None b is = rw is (refl, taken (reply_of l user a) (fold.reply_of (server_for user) l user a) (replies_are (λ device. user) l user a placed))
  sync_taken a (Some p) b is = rw is tt

  by_filter : (since : Option SyncToken) (full after : Bool) (o : Option Filter)
      → Alike (heard (sync_asked since full after o) (sync_by l user since full after o)) (fold.answer_to (server_for user) l user (sync_asked since full after o))
  by_filter since full after None = tt
  by_filter since full after (Some f) =
      sync_taken (sync_ask since full after f) (sync.ahead_of since (fronts_of l)) (is_behind since (fronts_of l)) (sync_behind since (fronts_of l))

  pub sync_alike : (since : Option SyncToken) (full after : Bool) (filter : FilterAsk)
      → Alike (heard (sync_asked since full after (filter_for l user filter)) (sync_said l user since filter full after)) (fold.answer_to (server_for user) l user (sync_asked since full after (filter_for l user filter)))
  unfolding sync_said
  sync_alike since full after filter = by_filter since full after (filter_for l user filter)

-- ---- pages

none_of : (room : RoomId) (es : List Event) → list_any (λ (e : Event). event.same_room e.room room) es ≡ false → event.of_room room es ≡ []
none_of room [] e = refl
none_of room (x ∷ es) e = elim (cases_Bool (event.same_room x.room room)) [
  | inl is ↦ absurd (true≢false (rw is at e))
  | inr other ↦ rw other (none_of room es (rw other at e))
]

-- of a room that isn't there nothing is seen
unseen : (l : Lists) (user : List ℕ) (room : RoomId) → has_room l room ≡ false → sees user (events_in l room) (length l.events) ≡ false
unseen l user room none = ap (λ es. sees user es (length l.events)) (none_of room l.events none)

shown_if : (room : RoomId) (tell : RoomId → Said) (a : fold.PageAsk) (p : pager.Page) (q : Page Event) (there seen behind : Bool) (o : Option (ℕ × ℕ)) → page_from a.from_at p ≡ q → behind ≡ not (is_some o)
    → (there ≡ false → seen ≡ false) → tell room ≡ unless_ahead o (if seen then said.Paged p else said.Refused refusal.Forbidden)
    → Alike (heard_page a (of_room tell (if there then Some room else None))) (cond (seen && behind) (Showed a q) PassedOver)
shown_if room tell a p q false seen behind o is b unseen tells = rw (unseen refl) tt
shown_if room tell a p q true true behind None is b unseen tells = rw (tells, b) (refl, is)
shown_if room tell a p q true false behind None is b unseen tells = rw tells tt
shown_if room tell a p q true true behind (Some x) is b unseen tells = rw (tells, b) tt
shown_if room tell a p q true false behind (Some x) is b unseen tells = rw tells tt

module _ (l : Lists) (user : List ℕ) where
  to_is : (to : Option SyncToken) → to_bound to ≡ option_map bound.Sync to
  to_is None = refl
  to_is (Some t) = refl

  page_taken : (room : RoomId) (from : PageToken) (to : Option SyncToken) (limit : ℕ) (filter : Filter)
      → Alike (heard (page_back room from to limit filter) (of_room (λ r. page_told l user (page_ask true (Some (bound.Page from)) (to_bound to) limit filter r)) (there l (Some room))))
      (fold.answer_to (server_for user) l user (page_back room from to limit filter))
  page_taken room from to limit filter =
      let ask : PageAsk = page_ask true (Some (bound.Page from)) (to_bound to) limit filter room in
      let asked : fold.PageAsk = record { room = room; from_at = from.at; from_cut = from.e; to = to; limit = limit; filter = filter.selection } in
      shown_if room (λ r. page_told l user (page_ask true (Some (bound.Page from)) (to_bound to) limit filter r)) asked (page_of l.events user ask) (fold.page_asked (server_for user) l user asked) (has_room l room) (sees user (events_in l room) (length l.events))
      (nat_le from.e (fronts_of l).e && is_behind to (fronts_of l)) (asks_ahead (snapshot_of l) ask)
      (pages_are (server_for user) l user refl ask asked (record { backward = refl; room_is = refl; from_is = refl; to_is = to_is to; limit_is = refl; filter_is = refl }))
      (page_behind l from to) (unseen l user room) refl

  to_taken : (room : RoomId) (from : PageToken) (to : Option Bound) (limit : ℕ) (filter : Filter)
      → Alike (heard (page_to room from to limit filter) (of_room (λ r. page_told l user (page_ask true (Some (bound.Page from)) to limit filter r)) (there l (Some room))))
      (fold.answer_to (server_for user) l user (page_to room from to limit filter))
  to_taken room from None limit filter = page_taken room from None limit filter
  to_taken room from (Some (bound.Sync t)) limit filter = page_taken room from (Some t) limit filter
  to_taken room from (Some (bound.Page t)) limit filter = tt

  from_taken : (room : RoomId) (from to : Option Bound) (limit : ℕ) (filter : Filter)
      → Alike (heard (page_from_bound room from to limit filter) (of_room (λ r. page_told l user (page_ask true from to limit filter r)) (there l (Some room))))
      (fold.answer_to (server_for user) l user (page_from_bound room from to limit filter))
  from_taken room None to limit filter = tt
  from_taken room (Some (bound.Sync t)) to limit filter = tt
  from_taken room (Some (bound.Page t)) to limit filter = to_taken room t to limit filter

  pub page_alike : (room : Option RoomId) (backward : Bool) (from to : Option Bound) (limit : ℕ) (filter : Filter)
      → Alike (heard (page_asked room backward from to limit filter) (page_said l user room backward from to limit filter))
      (fold.answer_to (server_for user) l user (page_asked room backward from to limit filter))
  unfolding page_said
  page_alike None backward from to limit filter = tt
  page_alike (Some room) true from to limit filter = from_taken room from to limit filter
  page_alike (Some room) false from to limit filter = tt
