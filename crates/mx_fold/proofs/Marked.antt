-- What a reply and a page say over the lists at their mark, they say over all later lists.
use Rattle.std.proofs.Common.{◌≡◌, ℕ, ◌<◌, ◌≤◌, Bool, true, List, ◌++◌, take, drop, Option, Some, None, refl, sym, ap, ◌∙◌}
use Rattle.std.specs.List.{AllByRecursion}
use Rattle.std.proofs.lemmas.List.{take-take}
use Rattle.mx_core.proofs.Covering.{covers_more}
use Rattle.mx_window.specs.Windows.{stand_from}
use Rattle.mx_window.proofs.Each.{AllByRecursion-filter}
use Rattle.mx_ids.specs.declared.room_id.RoomId.{RoomId}
use Rattle.mx_ids.specs.declared.sync_token.SyncToken.{SyncToken}
use Rattle.mx_event.specs.Lawful.{same_room, of_room}
use Rattle.mx_event.specs.Shown.{position_of}
use Rattle.mx_event.specs.declared.event.Event.{Event}
use Rattle.mx_account.specs.Entries as account
use Rattle.mx_folding.specs.Parts.{page_of, Gap}
use Rattle.mx_folding.specs.Stories.{Sync, told, IsNext, IsBase}
use Rattle.mx_view.specs.Later.{SameRest}
use Rattle.mx_view.specs.Rooms.{Key, room_of, story_of}
use Rattle.mx_view.specs.Tokens.{tokens, is_before}
use Rattle.mx_event.proofs.Lawfully.{rooms_are_valid}
use Rattle.mx_view.proofs.Longer.{same_told, same_paged}
use Rattle.mx_view.proofs.Orders.{before_parts, before_self, after_take, filter_split}
use Rattle.mx_filter.specs.Sieves as sieves
use Rattle.mx_filter.specs.Passes as filters
use Rattle.mx_filter.specs.Sieves.{sieve_of}
use Rattle.mx_filter.specs.declared.parts.Selection.{Selection}
use Rattle.mx_filter.proofs.Sames.{pages as pages_fit}
use Rattle.mx_core.proofs.InPlace.{covered_in_place}
use Rattle.mx_fold.specs.Lists.{Lists, Histories, Counts, AreLawful, upto, fronts_of, events_in, lists_of, lists_at}
use Rattle.mx_fold.specs.Servers.{Server, rest_of, story}

upto_upto : (i j : SyncToken) (lists : Lists) → is_before i j ≡ true → upto i (upto j lists) ≡ upto i lists
upto_upto i j lists h =
    let p = before_parts i j h in
    let events = take-take i.e j.e lists.events p.0 in
    let receipts = take-take i.r j.r lists.receipts p.1 in
    let accounts = take-take i.a j.a lists.accounts p.2 in
    λ n. record { events = events n; receipts = receipts n; accounts = accounts n }

-- the lists at a mark are the final ones up to its fronts
pub mark_upto : (h : Histories) (n : Counts) → lists_at n h ≡ upto (fronts_of (lists_at n h)) (lists_of h)
mark_upto h n =
    let events = covers_more n.events h.events in
    let receipts = covers_more n.receipts h.receipts in
    let accounts = covers_more n.accounts h.accounts in
    λ i. record { events = events i; receipts = receipts i; accounts = accounts i }

pub events_stand : (h : Histories) → AreLawful h → stand_from position_of 1 (lists_of h).events ≡ true
events_stand h is = (rooms_are_valid h.events is.orderly is.events).0

pub accounts_stand : (h : Histories) → AreLawful h → stand_from account.position_of 1 (lists_of h).accounts ≡ true
accounts_stand h is =
    covered_in_place account.position_of (λ writer before first items. account.are_placed first items) h.accounts
    (λ writer before first items placed. placed) is.accounts

module _ {V D : Type 0} (w : Server V D) (lists : Lists) (events : stand_from position_of 1 lists.events ≡ true) (user : List ℕ) where
  -- what comes in a room after a front
  abbrev later_in : ℕ → RoomId → List Event
  later_in n room = of_room room (drop n lists.events)

  later_above : (n : ℕ) (room : RoomId) → AllByRecursion (λ (e : Event). n < e.id.at) (later_in n room)
  later_above n room =
      AllByRecursion-filter (λ (e : Event). n < e.id.at) (λ (e : Event). same_room e.room room)
      (drop n lists.events) (after_take position_of n lists.events events)

  split_in : (n : ℕ) (room : RoomId) → of_room room (take n lists.events) ++ later_in n room ≡ events_in lists room
  split_in n room = filter_split (λ (e : Event). same_room e.room room) n lists.events

  same_rest : (f : Selection) (room : RoomId) (since : Option SyncToken) (j : SyncToken) → IsNext tokens since j
      → SameRest (rest_of w lists user f room) (rest_of w (upto j lists) user f room) since j
  same_rest f room None j next = sym (ap (w.view user f room) (upto_upto j j lists (before_self j j refl refl refl refl)))
  same_rest f room (Some i) j next =
      let there = sym (upto_upto j j lists (before_self j j refl refl refl refl)) in
      let here = sym (upto_upto i j lists next) in
      (ap (w.view user f room) there, (λ n. w.delta user f room (here n) (there n)), (λ n. w.differs user f room (here n) (there n)))

  -- a reply of the token j
  pub told_at_mark : (f : Selection) (room : RoomId) (ask : Sync) (heroes : Key → Bool) (b : ℕ) (since : Option SyncToken) (j : SyncToken)
      → IsNext tokens since j → IsBase tokens b since j
      → told tokens (story w (upto j lists) user f room) ask heroes b since j ≡ told tokens (story w lists user f room) ask heroes b since j
  told_at_mark f room ask heroes b since j next base =
      sym (same_told (sieve_of w.name f room) (filters.picks w.name f room) user (of_room room (take j.e lists.events)) (later_in j.e room)
      (rest_of w lists user f room) (rest_of w (upto j lists) user f room)
      ask heroes b since j next base (later_above j.e room) (same_rest f room since j next))
      ∙ ap (λ es. told tokens (story_of (sieve_of w.name f room) (filters.picks w.name f room) user es (rest_of w lists user f room)) ask heroes b since j)
      (split_in j.e room)

  -- a page at a front, of a filter that lets the same pass
  pub page_at_mark : (f : Selection) (p : Selection) (room : RoomId) (fronts : SyncToken) (limit : ℕ) (gap : Gap) → sieves.fits f p
      ≡ true → gap.front ≤ fronts.e → gap.lower ≤ gap.upper → gap.upper ≤ fronts.e
      → page_of (room_of (sieve_of w.name p room) user (events_in (upto fronts lists) room)) (events_in (upto fronts lists) room) limit fronts.e gap
      ≡ page_of (story w lists user f room).room (events_in lists room) limit fronts.e gap
  page_at_mark f p room fronts limit gap fits up le in' =
      let longer =
      same_paged (sieve_of w.name p room) user (of_room room (take fronts.e lists.events))
      (later_in fronts.e room) limit fronts.e gap up le in' (later_above fronts.e room) in
      let events = split_in fronts.e room in
      let passes = (pages_fit w.name f p fits room).0 in
      let lazy = (pages_fit w.name f p fits room).1 in
      sym longer ∙ (λ i. page_of (room_of (sieve_of w.name p room) user (events i)) (events i) limit fronts.e gap)
      ∙ (λ i. page_of (room_of (record (sieve_of w.name f room) { passes = passes i; lazy = lazy i }) user (events_in lists room))
      (events_in lists room) limit fronts.e gap)
