-- What is sent is visible.
use Rattle.std.proofs.Common.{◌≡◌, ℕ, ◌-◌, Bool, true, false, cond, not, ◌&&◌, ◌||◌, List, [], ◌∷◌, map, length, Option, Some, None, refl, sym, subst, nat_lt, nat_le, drop}
use Rattle.std.specs.List.{AllByRecursion, Contains}
use Rattle.std.proofs.lemmas.Bool.{and_parts}
use Rattle.mx_window.specs.Windows.{between}
use Rattle.mx_window.proofs.Each.{AllByRecursion-map, AllByRecursion-weaker, AllByRecursion-both, AllByRecursion-filter, AllByRecursion-contained}
use Rattle.mx_window.proofs.Sections.{AllByRecursion-drop}
use Rattle.mx_ids.specs.declared.room_id.RoomId.{RoomId}
use Rattle.mx_ids.specs.declared.sync_token.SyncToken.{SyncToken}
use Rattle.mx_event.specs.Shown.{position_of}
use Rattle.mx_event.specs.declared.event.Event.{Event}
use Rattle.mx_folding.specs.Rooms.{Room}
use Rattle.mx_folding.specs.Sections.{sendable, break_at, section, chunk, window}
use Rattle.mx_folding.specs.Parts.{Part, part_of, page_of, picks, picks_new, Gap, has_some}
use Rattle.mx_folding.specs.Redactions as redactions
use Rattle.mx_folding.specs.Visible.{Membership, Join, Invite, Leave, Ban, is_visible, joined_at}
use Rattle.mx_folding.specs.Stories.{Tokens, position, Story, own_at, joined_in, Sync, Told, Nothing, Anew, More, Invited, Left, told_by, told_of, told}
use Rattle.mx_folding.proofs.Cuts.{sent_is_visible}
use Rattle.mx_view.specs.Left.{left_by, left_window, pick_in}
use Rattle.mx_view.specs.Readings.{viewer_of}
use Rattle.mx_view.specs.Rooms.{Key, Sieve, room_of}
use Rattle.mx_view.specs.Tokens.{tokens, next_token}
use Rattle.mx_view.proofs.Pictured.{same_shown}
use Rattle.mx_filter.specs.Sieves.{sieve_of}
use Rattle.mx_fold.specs.Lists.{Lists, fronts_of, events_in, lists_at}
use Rattle.mx_fold.specs.Servers.{Server, story}
use Rattle.mx_fold.specs.Replies.{SyncAsk, Ask, Syncs, Pages, Else, Said, Replied, Showed, PassedOver, heroes_in, reply_of, sync_of, is_behind, sees_room, answer_to, asked_gap, page_asked}
use Rattle.mx_fold.specs.Sent.{IsSeen, sent_of, AreSeen, SeesSaid}
use Rattle.mx_fold.specs.Exchanges.{ConnectionsSee}

module _ (f : Sieve) (user : List ℕ) (es : List Event) (front : ℕ) where
  abbrev r : Room Event Key
  r = room_of f user es

  -- events of the list that are sent, as they are shown
  shown_seen : (xs : List Event) → AllByRecursion (Contains es) xs → AllByRecursion (λ e. r.sends front e ≡ true) xs
      → AllByRecursion (IsSeen user es front) (map (redactions.shown r es front) xs)
  shown_seen xs listed sent =
      AllByRecursion-map (IsSeen user es front) (redactions.shown r es front) xs
      (AllByRecursion-weaker (λ e. Contains es e × (r.sends front e ≡ true)) (λ e. IsSeen user es front (redactions.shown r es front e))
      (λ e h. record {
        event = e;
        listed = h.0;
        shown_is = sym (same_shown f user es front e);
        visible =
            (and_parts (is_visible (viewer_of user) es front e) (f.passes e) h.1).0;
      }) xs
      (AllByRecursion-both (Contains es) (λ e. r.sends front e ≡ true) xs listed sent))

  of_window : (low high n : ℕ) → AllByRecursion (Contains es) (drop n (sendable r es front low high))
  of_window low high n =
      AllByRecursion-drop (Contains es) n (sendable r es front low high)
      (AllByRecursion-filter (Contains es) (r.sends front) (between position_of low high es)
      (AllByRecursion-filter (Contains es) (λ (e : Event). nat_lt low e.id.at && nat_le e.id.at high) es (AllByRecursion-contained es)))

  part_seen : (after : Bool) (limit low high : ℕ) (pick : List Event → Event → Bool)
      → AllByRecursion (IsSeen user es front) (part_of r es front (window after limit low high) pick).sent
  part_seen after limit low high pick =
      let from : ℕ = cond after low (break_at r es front low high) in
      shown_seen (section r es front (window after limit low high)) (of_window from high (length (sendable r es front from high) - limit))
      (sent_is_visible r es after limit front low high)

  page_seen : (limit : ℕ) (gap : Gap) → AllByRecursion (IsSeen user es front) (page_of r es limit front gap).sent
  page_seen limit gap =
      shown_seen (chunk r es limit front gap.lower gap.upper) (of_window gap.lower gap.upper (length (sendable r es front gap.lower gap.upper) - limit))
      (sent_is_visible r es true limit front gap.lower gap.upper)

  left_seen : (ask : Sync) (b s : ℕ) (fresh : Bool) (o : Option Event) → AllByRecursion (IsSeen user es front) (left_window r es ask b front s fresh o).sent
  left_seen ask b s fresh None = tt
  left_seen ask b s fresh (Some l) = by (nat_lt s l.id.at) where
    by : (c : Bool) → AllByRecursion (IsSeen user es front)
        (cond c (part_of r es front (window ask.after ask.limit (cond fresh 0 s) l.id.at) (pick_in r ask b s fresh))
        (record { limited = false; cut = front; state = []; sent = [] })).sent
    by true = part_seen ask.after ask.limit (cond fresh 0 s) l.id.at (pick_in r ask b s fresh)
    by false = tt

-- what is told of a room sends one of two parts, or nothing
module _ {E K V D T : Type 0} (ts : Tokens T) (g : Story E K V D T) (j : T) (leave : Bool) (anew more : Part E) (P : E
    → Type 0) (first : AllByRecursion P anew.sent) (second : AllByRecursion P more.sent) where
  either : (b : Bool) (x y : Told E V D) → AllByRecursion P (sent_of x) → AllByRecursion P (sent_of y) → AllByRecursion P (sent_of (cond b x y))
  either true x y h h' = h
  either false x y h h' = h'

  sent_by : (since : Option T) (e : E) (own : Option Membership) → AllByRecursion P (sent_of (told_by ts g since j leave anew more e own))
  sent_by since e None = tt
  sent_by None e (Some Join) = first
  sent_by (Some i) e (Some Join) =
      either (joined_in g (ts.event i)) (cond (has_some more || g.rest.differs i j) (More more (g.rest.delta i j)) Nothing) (Anew anew (g.rest.view j))
      (either (has_some more || g.rest.differs i j) (More more (g.rest.delta i j)) Nothing second tt) first
  sent_by None e (Some Invite) = tt
  sent_by (Some i) e (Some Invite) = either (nat_lt (ts.event i) (g.room.at e)) (Invited (g.stripped e)) Nothing tt tt
  sent_by None e (Some Leave) = either leave Left Nothing tt tt
  sent_by (Some i) e (Some Leave) = either (nat_lt (ts.event i) (g.room.at e)) Left Nothing tt tt
  sent_by None e (Some Ban) = either leave Left Nothing tt tt
  sent_by (Some i) e (Some Ban) = either (nat_lt (ts.event i) (g.room.at e)) Left Nothing tt tt

  sent_told : (picked : Bool) (since : Option T) (own : Option E) → AllByRecursion P (sent_of (cond picked (told_of ts g since j leave anew more own) Nothing))
  sent_told false since own = tt
  sent_told true since None = tt
  sent_told true since (Some e) = sent_by since e (g.membership e)

module _ {V D : Type 0} (w : Server V D) (lists : Lists) (user : List ℕ) where
  abbrev front : ℕ
  front = (fronts_of lists).e

  told_seen : (ask : SyncAsk) (room : RoomId) (b : ℕ) (j : SyncToken) → j.e ≡ front
      → AreSeen w lists user room (sent_of (told tokens (story w lists user ask.filter room) (sync_of ask) (heroes_in w lists user ask room) b ask.since j))
  told_seen ask room b j same =
      let g = story w lists user ask.filter room in
      let es : List Event = events_in lists room in
      let sieve : Sieve = sieve_of w.name ask.filter room in
      let s : ℕ = position tokens ask.since in
      let heroes : Key → Bool = heroes_in w lists user ask room in
      let pick_new = picks_new g.room heroes in
      let pick = picks g.room (sync_of ask).redundant b s (cond (sync_of ask).full 0 s) heroes in
      let anew = part_of g.room es j.e (window (sync_of ask).after (sync_of ask).limit 0 j.e) pick_new in
      let more = part_of g.room es j.e (window (sync_of ask).after (sync_of ask).limit s j.e) pick in
      subst (λ n. AllByRecursion (IsSeen user es n) (sent_of (told tokens g (sync_of ask) heroes b ask.since j))) same
      (sent_told tokens g j (sync_of ask).leave anew more (IsSeen user es j.e)
      (part_seen sieve user es j.e (sync_of ask).after (sync_of ask).limit 0 j.e pick_new)
      (part_seen sieve user es j.e (sync_of ask).after (sync_of ask).limit s j.e pick) g.picked ask.since (own_at g j.e))

  next_e : (since : Option SyncToken) → (next_token since (fronts_of lists)).e ≡ front
  next_e None = refl
  next_e (Some s) = refl

  reply_seen : (ask : SyncAsk) → SeesSaid w lists user (Replied ask (reply_of w lists user ask))
  reply_seen ask room = (
    told_seen ask room (next_token ask.since (fronts_of lists)).b (next_token ask.since (fronts_of lists)) (next_e ask.since),
    left_seen (sieve_of w.name ask.filter room) user (events_in lists room) front (sync_of ask)
        (next_token ask.since (fronts_of lists)).b (position tokens ask.since)
        (not (joined_at (viewer_of user) (events_in lists room) (position tokens ask.since))) (left_by (viewer_of user) (events_in lists room)),
  )

  said_if : (said : Said V D) → SeesSaid w lists user said → (b : Bool) → SeesSaid w lists user (cond b said PassedOver)
  said_if said seen true = seen
  said_if said seen false = tt

  said_seen : (asked : Ask) → SeesSaid w lists user (answer_to w lists user asked)
  said_seen (Syncs ask) = said_if (Replied ask (reply_of w lists user ask)) (reply_seen ask) (is_behind ask.since (fronts_of lists))
  said_seen (Pages ask) =
      said_if (Showed ask (page_asked w lists user ask))
      (page_seen (sieve_of w.name ask.filter ask.room) user (events_in lists ask.room) front ask.limit (asked_gap ask))
      (sees_room w lists user ask.room && (nat_le ask.from_cut (fronts_of lists).e && is_behind ask.to (fronts_of lists)))
  said_seen Else = tt

  answer_seen : (asked : Ask) (memory : Bool) → SeesSaid w lists user (cond memory PassedOver (answer_to w lists user asked))
  answer_seen asked true = tt
  answer_seen asked false = said_seen asked

pub connections_see : {V D : Type 0} → ConnectionsSee V D
connections_see w h [] marks = tt
connections_see w h (a ∷ asked) [] = tt
connections_see w h (a ∷ asked) (mark ∷ marks) = (answer_seen w (lists_at mark.stores h) (w.user_of a.0) a.1 mark.memory, connections_see w h asked marks)
