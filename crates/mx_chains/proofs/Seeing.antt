-- Each event of a page is visible, whatever the page's bounds and its direction.
use Rattle.std.proofs.Common.{◌≡◌, if◌then◌else◌, ℕ, zero, suc, ◌-◌, ◌&&◌, List, [], ◌∷◌, Bool, true, false, cond, Option, Some, None, drop, filter, length, nat_le, nat_lt, reverse, take, refl, sym, subst}
use Rattle.std.specs.Prelude.{IfSome}
use Rattle.std.specs.List.{AllByRecursion, Contains}
use Rattle.std.proofs.lemmas.Bool.{and_parts}
use Rattle.mx_ids.specs.Memory.{refused_memory}
use Rattle.mx_ids.specs.User.{server_of}
use Rattle.mx_ids.specs.declared.room_id.RoomId.{RoomId}
use Rattle.mx_window.specs.Windows.{between}
use Rattle.mx_window.proofs.Each.{AllByRecursion-both, AllByRecursion-contained, AllByRecursion-filter, AllByRecursion-map, AllByRecursion-passed, AllByRecursion-weaker, map-map}
use Rattle.mx_window.proofs.Sections.{AllByRecursion-drop}
use Rattle.mx_event.specs.Shown.{position_of, shown}
use Rattle.mx_event.specs.declared.event.Event.{Event}
use Rattle.mx_event.specs.declared.event.Shown.{Shown}
use Rattle.mx_filter.specs.Sieves.{sieve_of}
use Rattle.mx_filter.specs.declared.parts.Filter.{Filter}
use Rattle.mx_folding.specs.Rooms.{Room}
use Rattle.mx_folding.specs.Sections.{sendable}
use Rattle.mx_folding.specs.Visible.{is_visible}
use Rattle.mx_view.specs.Readings.{viewer_of}
use Rattle.mx_view.specs.Rooms.{Key, Sieve, room_of as room_seen}
use Rattle.mx_view.specs.Shows.{shown_for}
use Rattle.mx_fold.specs.Lists.{Histories, Lists, events_in, lists_of}
use Rattle.mx_fold.specs.Sent.{IsSeen}
use Rattle.mx_pager.specs.Asks.{asks_ahead, high_of, low_of}
use Rattle.mx_pager.specs.Laws.{events_shown}
use Rattle.mx_pager.specs.Pages.{chosen, page_of, sees, shown_at}
use Rattle.mx_pager.specs.declared.asked.Bound.{Bound}
use Rattle.mx_pager.specs.declared.asked.PageAsk.{PageAsk}
use Rattle.mx_pager.specs.declared.sent.Page.{Page}
use Rattle.mx_pager.proofs.Turned.{reverse_each}
use Rattle.mx_engine.specs.RoomReads.Places.{has_room}
use Rattle.mx_ask.specs.declared.ask.Ask as what
use Rattle.mx_ask.specs.declared.ask.Ask.TheVariants as ask
use Rattle.mx_ask.specs.declared.ask.Request.{Request}
use Rattle.mx_ask.specs.declared.ask.Who.{Who}
use Rattle.mx_ask.specs.declared.refusal.Refusal.TheVariants as refusal
use Rattle.mx_ask.specs.declared.said.Said.{Said}
use Rattle.mx_ask.specs.declared.said.Said.TheVariants as said
use Rattle.mx_engine.specs.Acts.Acts.{asked}
use Rattle.mx_engine.specs.Acts.Reads.{of_room, page_ask, page_said, page_told, snapshot_of, unless_ahead}
use Rattle.mx_engine.specs.Aims.Asked.{Site, room_of}
use Rattle.mx_engine.specs.Answers.{act_said, answer_to as answered, counts}
use Rattle.mx_engine.specs.Exchanges.{first_of}
use Rattle.mx_engine.specs.declared.answered.Answered.{Answered}
use Rattle.mx_engine.specs.declared.answered.Mark as marks
use Rattle.mx_chains.specs.Chains.{AreAnswers}
use Rattle.mx_chains.specs.Seen.{PagesSee, SeesIn, SeesPage, paged_room}

-- ---- a page, over a room's list

module _ (f : Sieve) (user : List ℕ) (es : List Event) (front : ℕ) where
  abbrev r : Room Event Key
  r = room_seen f user es

  -- an event of the list that is sent
  abbrev IsSent : Event → Type 0
  IsSent e = Contains es e × (r.sends front e ≡ true)

  window_sent : (low high : ℕ) → AllByRecursion IsSent (sendable r es front low high)
  window_sent low high =
      let inside : List Event = between position_of low high es in
      AllByRecursion-both (Contains es) (λ e. r.sends front e ≡ true) (sendable r es front low high)
      (AllByRecursion-filter (Contains es) (r.sends front) inside
      (AllByRecursion-filter (Contains es) (λ (e : Event). nat_lt low e.id.at && nat_le e.id.at high) es (AllByRecursion-contained es)))
      (AllByRecursion-passed (r.sends front) inside)

  first_sent : (n : ℕ) (xs : List Event) → AllByRecursion IsSent xs → AllByRecursion IsSent (take n xs)
  first_sent zero xs h = tt
  first_sent (suc n) [] h = tt
  first_sent (suc n) (x ∷ xs) h = (h.0, first_sent n xs h.1)

  chosen_sent : (b : Bool) (limit low high : ℕ)
      → AllByRecursion IsSent (cond b (drop (length (sendable r es front low high) - limit) (sendable r es front low high)) (take limit (sendable r es front low high)))
  chosen_sent true limit low high =
      AllByRecursion-drop IsSent (length (sendable r es front low high) - limit) (sendable r es front low high) (window_sent low high)
  chosen_sent false limit low high = first_sent limit (sendable r es front low high) (window_sent low high)

  in_order : (b : Bool) (xs : List Event) → AllByRecursion IsSent xs → AllByRecursion IsSent (cond b (reverse xs) xs)
  in_order true xs h = reverse_each IsSent xs h
  in_order false xs h = h

  shown_seen : (xs : List Event) → AllByRecursion IsSent xs → AllByRecursion (IsSeen user es front) (events_shown (shown_at user es front xs))
  shown_seen xs h =
      subst (AllByRecursion (IsSeen user es front)) (sym (map-map (λ (s : Shown). s.event) (shown_for user es front) xs))
      (AllByRecursion-map (IsSeen user es front) (λ e. shown es e front) xs
      (AllByRecursion-weaker IsSent (λ e. IsSeen user es front (shown es e front))
      (λ e sent. record {
        event = e;
        listed = sent.0;
        shown_is = refl;
        visible = (and_parts (is_visible (viewer_of user) es front e) (f.passes e) sent.1).0;
      }) xs h))

page_seen : (l : Lists) (user : List ℕ) (asks : PageAsk)
    → AllByRecursion (IsSeen user (events_in l asks.room) (length l.events)) (events_shown (page_of l.events user asks).chunk)
page_seen l user asks =
    let es : List Event = events_in l asks.room in
    let front : ℕ = length l.events in
    let f : Sieve = sieve_of (server_of user) asks.filter.now.selection asks.room in
    let picked : List Event = chosen (room_seen f user es) es front asks in
    shown_seen f user es front (cond asks.backward (reverse picked) picked)
    (in_order f user es front asks.backward picked (chosen_sent f user es front asks.backward asks.limit (low_of front asks) (high_of front asks)))

-- ---- an answer

module _ (l : Lists) (user : List ℕ) where
  told_seen : (room : RoomId) (p : Page) (seen : AllByRecursion (IsSeen user (events_in l room) (length l.events)) (events_shown p.chunk))
      (o : Option (ℕ × ℕ)) (b : Bool) → SeesIn l user (Some room) (unless_ahead o (if b then said.Paged p else said.Refused refusal.Forbidden))
  told_seen room p seen None true = (room, refl, seen)
  told_seen room p seen None false = tt
  told_seen room p seen (Some x) b = tt

  there_seen : (room : RoomId) (tell : RoomId → Said) → SeesIn l user (Some room) (tell room) → (b : Bool) → SeesIn l user (Some room) (of_room tell (cond b (Some room) None))
  there_seen room tell seen true = seen
  there_seen room tell seen false = tt

  said_seen : (named : Option RoomId) (backward : Bool) (from to : Option Bound) (limit : ℕ) (filter : Filter)
      → SeesIn l user named (page_said l user named backward from to limit filter)
  unfolding page_said
  said_seen None backward from to limit filter = tt
  said_seen (Some room) backward from to limit filter =
      let asks : PageAsk = page_ask backward from to limit filter room in
      there_seen room (λ r. page_told l user (page_ask backward from to limit filter r))
      (told_seen room (page_of l.events user asks) (page_seen l user asks) (asks_ahead (snapshot_of l) asks) (sees user (events_in l room) (length l.events)))
      (has_room l room)

  -- nothing is told where memory was wanting
  refused_seen : (o : Option (Option RoomId)) → IfSome o (λ named. SeesIn l user named (said.NoMemory refused_memory))
  refused_seen None = tt
  refused_seen (Some named) = tt

module _ (site : Site) (h : Histories) (m : marks.Mark) (now : ℕ) (who : Who) where
  act_seen : (x : what.Ask) → SeesPage site (lists_of h) who x (act_said h m (asked site now who x))
  act_seen ask.WhoAmI = tt
  act_seen (ask.CreateRoom body) = tt
  act_seen ask.JoinedRooms = tt
  act_seen (ask.Send room kind txn content) = tt
  act_seen (ask.PutState room kind key content) = tt
  act_seen (ask.GetState room kind key) = tt
  act_seen (ask.AllState room) = tt
  act_seen (ask.Members room membership not_membership) = tt
  act_seen (ask.OneEvent room event) = tt
  act_seen (ask.Redact room event txn reason) = tt
  act_seen (ask.Join room reason) = tt
  act_seen (ask.Leave room reason) = tt
  act_seen (ask.Invite room user reason) = tt
  act_seen (ask.Kick room user reason) = tt
  act_seen (ask.Ban room user reason) = tt
  act_seen (ask.Unban room user reason) = tt
  act_seen (ask.Messages room backward from to limit filter) = said_seen (lists_of h) who.user (room_of site room) backward from to limit filter
  act_seen (ask.Sync since filter full after timeout) = tt
  act_seen (ask.PutFilter filter) = tt
  act_seen (ask.GetFilter id) = tt
  act_seen (ask.PutAccount room kind content) = tt
  act_seen (ask.GetAccount room kind) = tt
  act_seen (ask.Tags room) = tt
  act_seen (ask.PutTag room tag body) = tt
  act_seen (ask.DeleteTag room tag) = tt
  act_seen (ask.Receipt room kind event) = tt
  act_seen (ask.ReadMarkers room fully read private) = tt
  act_seen (ask.PushRules inner) = tt
  act_seen (ask.GetRule kind id) = tt
  act_seen (ask.PutRule kind id body before after) = tt
  act_seen (ask.DeleteRule kind id) = tt
  act_seen (ask.GetEnabled kind id) = tt
  act_seen (ask.PutEnabled kind id on) = tt
  act_seen (ask.GetActions kind id) = tt
  act_seen (ask.PutActions kind id body) = tt

  answer_seen : (x : what.Ask) → SeesPage site (lists_of h) who x (answered site h m now who x)
  answer_seen x = by m.memory where
    by : (memory : Bool) → SeesPage site (lists_of h) who x (if memory then (said.NoMemory refused_memory) else act_said h m (asked site now who x))
    by true = refused_seen (lists_of h) who.user (paged_room site x)
    by false = act_seen x

pub pages_see : (site : Site) (all : Histories) (rs : List Request) (answers : List Answered) → AreAnswers site all rs answers → PagesSee site all rs answers
pages_see site all [] answers h = tt
pages_see site all (r ∷ rs) [] h = tt
pages_see site all (r ∷ rs) (a ∷ answers) h = (
  subst (SeesPage site (lists_of (first_of all (counts a.mark))) r.who r.ask) (sym h.0)
      (answer_seen site (first_of all (counts a.mark)) a.mark a.mark.now r.who r.ask),
  pages_see site all rs answers h.1,
)
