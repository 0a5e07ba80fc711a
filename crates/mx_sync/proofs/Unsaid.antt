-- Nothing is said of a room in which nothing came after the token.
use Rattle.std.proofs.Common.{◌≡◌, ℕ, ◌≤◌, Bool, true, false, cond, not, ◌&&◌, ◌||◌, List, [], ◌∷◌, length, drop, Option, Some, None, nat_lt, nat_le, refl, ap, ap₂, sym, ◌∙◌}
use Rattle.std.proofs.lemmas.Bool.{and_parts, le-leb, leb-true, ltb-false, or_parts}
use Rattle.std.specs.BTreeSet.{BTreeSet}
use Rattle.std.specs.List.{AllByRecursion, list_any}
use Rattle.std.specs.Option.{is_some, option_and_then}
use Rattle.mx_ids.specs.User.{server_of}
use Rattle.mx_ids.specs.declared.room_id.RoomId.{RoomId}
use Rattle.mx_ids.specs.declared.sync_token.SyncToken.{SyncToken}
use Rattle.mx_account.specs.Entries.{is_of}
use Rattle.mx_event.specs.Kinds.{is_of as is_kind, member_type}
use Rattle.mx_event.specs.Lawful.{of_room, same_room}
use Rattle.mx_event.specs.Shown.{position_of}
use Rattle.mx_event.specs.declared.event.Event.{Event}
use Rattle.mx_receipt.specs.Receipts as receipt
use Rattle.mx_receipt.specs.declared.receipt.Receipt.{Receipt}
use Rattle.mx_window.specs.Lasts.{last_of}
use Rattle.mx_window.specs.Windows.{between, stand_from}
use Rattle.mx_window.proofs.Each.{AllByRecursion-both, AllByRecursion-weaker, filter-same}
use Rattle.mx_window.proofs.Lasts.{last_of-some}
use Rattle.mx_folding.specs.Visible.{Membership, Join, Invite, Leave, Ban, is_join, joined_at, membership_after}
use Rattle.mx_view.specs.Readings.{is_own, membership_of, viewer_of}
use Rattle.mx_view.specs.Tokens.{is_before}
use Rattle.mx_filter.specs.Passes as filters
use Rattle.mx_fold.specs.Lists.{Lists, fronts_of}
use Rattle.mx_fold.specs.Replies.{SyncAsk}
use Rattle.mx_snapshot.specs.Events as snapshot
use Rattle.mx_snapshot.specs.Events.{rooms_of}
use Rattle.mx_rest.specs.Walks.{last_rules}
use Rattle.mx_rest.proofs.UpTo.{ArePlaced}
use Rattle.mx_sync.specs.Candidates.{HasAllSaid, goes_on, has_news_of}
use Rattle.mx_sync.specs.Quiet.{IsQuiet, data_after, has_room}
use Rattle.mx_sync.specs.Replies.{said_by, said_of}
use Rattle.mx_sync.specs.Ways.{anew, is_after, joined, later, said_by_last, said_by_own}
use Rattle.mx_sync.specs.declared.room_reply.RoomReply.{RoomReply}
use Rattle.mx_sync.specs.declared.room_reply.RoomReply.TheVariants as answer
use Rattle.mx_sync.proofs.Listed.{is_at, not_listed}
use Rattle.mx_sync.proofs.Quiet.{old_events, quiet_is, within_front}
use Rattle.mx_sync.proofs.Reaching.{last_early}
use Rattle.mx_sync.proofs.Told.{none_told}
use Rattle.mx_sync.proofs.Ways.{way_is}
use Rattle.mx_sync.proofs.Whole.{room_whole}

not_true : (b : Bool) → not b ≡ true → b ≡ false
not_true true h = absurd cc
not_true false h = refl

-- none passes a test that asks for more
narrower : {E : Type 0} (p q : E → Bool) (xs : List E) → list_any p xs ≡ false → list_any (λ x. p x && q x) xs ≡ false
narrower p q [] h = refl
narrower p q (x ∷ xs) h =
    let parts = or_parts (p x) (list_any p xs) h in
    ap₂ (λ a b. (a && q x) || b) parts.0 (narrower p q xs parts.1)

off : (b : Bool) (r : RoomReply) → b ≡ false → cond b r answer.Nothing ≡ answer.Nothing
off b r is = ap (λ c. cond c r answer.Nothing) is

blank : (b : Bool) (r : RoomReply) → r ≡ answer.Nothing → cond b r answer.Nothing ≡ answer.Nothing
blank true r is = is
blank false r is = refl

module _ (l : Lists) (user : List ℕ) (a : SyncAsk) (t : SyncToken) (placed : ArePlaced l) (before : is_before t (fronts_of l) ≡ true)
    (since_is : a.since ≡ Some t) (goes : goes_on a.extent.full user l t ≡ true) (room : RoomId) (none : has_news_of user l t room ≡ false) where
  abbrev of_it : Event → Bool
  of_it e = same_room e.room room

  abbrev es : List Event
  es = of_room room l.events

  going : (a.extent.full ≡ false) × (last_rules user l ≤ t.a)
  going =
      let parts = and_parts (not a.extent.full) (nat_le (last_rules user l) t.a) goes in
      (not_true a.extent.full parts.0, leb-true (last_rules user l) t.a parts.1)

  nothing : (list_any (is_of user (Some room)) (data_after user l t.a) ≡ false) × (list_any of_it (drop t.e l.events) ≡ false)
      × (list_any (λ (x : Receipt). same_room x.room room) (drop t.r l.receipts) ≡ false)
  nothing =
      let entries : Bool = list_any (is_of user (Some room)) (data_after user l t.a) in
      let events : Bool = list_any of_it (drop t.e l.events) in
      let parts = or_parts (entries || events) (list_any (λ (x : Receipt). same_room x.room room) (drop t.r l.receipts)) none in
      let first = or_parts entries events parts.0 in
      (first.0, first.1, parts.1)

  quiet : IsQuiet room user l t
  quiet = record {
    event = last_early position_of of_it t.e l.events placed.events nothing.1;
    member =
        last_early position_of (snapshot.is_member room) t.e l.events placed.events
        (narrower of_it (λ (e : Event). is_kind member_type e && is_some e.state_key) (drop t.e l.events) nothing.1);
    receipt = last_early receipt.position_of (λ (x : Receipt). same_room x.room room) t.r l.receipts placed.receipts nothing.2;
    rules = going.1;
    entries = nothing.0;
  }

  old : AllByRecursion (λ (e : Event). nat_lt t.e e.id.at ≡ false) es
  old = old_events l user a.filter a.extent room t placed before going.0 quiet

  -- the room's events up to the token are all that there are
  all_old : between position_of 0 t.e es ≡ es
  all_old =
      filter-same (λ (e : Event). nat_lt 0 e.id.at && nat_le e.id.at t.e) (λ (e : Event). nat_lt 0 e.id.at && nat_le e.id.at (length l.events)) es
      (AllByRecursion-weaker (λ (e : Event). (nat_lt t.e e.id.at ≡ false) × (e.id.at ≤ length l.events))
      (λ (e : Event). (nat_lt 0 e.id.at && nat_le e.id.at t.e) ≡ (nat_lt 0 e.id.at && nat_le e.id.at (length l.events)))
      (λ e h. ap (λ b. nat_lt 0 e.id.at && b)
      (le-leb e.id.at t.e (ltb-false t.e e.id.at h.0) ∙ sym (le-leb e.id.at (length l.events) h.1))) es
      (AllByRecursion-both (λ (e : Event). nat_lt t.e e.id.at ≡ false) (λ (e : Event). e.id.at ≤ length l.events) es old
      (within_front l user a.filter a.extent room t placed before going.0 quiet)))
      ∙ room_whole room l.events placed.events

  own_old : (e : Event) → last_of (is_own user) es ≡ Some e → nat_lt t.e e.id.at ≡ false
  own_old e is = (last_of-some (λ (d : Event). nat_lt t.e d.id.at ≡ false) (is_own user) es e old is).1

  not_after : (e : Event) (otherwise : Bool) → last_of (is_own user) es ≡ Some e → is_after a.since e otherwise ≡ false
  not_after e otherwise is = ap (λ (s : Option SyncToken). is_after s e otherwise) since_is ∙ own_old e is

  -- who is joined now was joined at the token
  joined_then : (e : Event) → last_of (is_own user) es ≡ Some e → membership_of e ≡ Some Join → joined_at (viewer_of user) es t.e ≡ true
  joined_then e is join =
      ap (λ (ds : List Event). is_join (membership_after (viewer_of user) ds)) all_old
      ∙ ap (λ (o : Option Event). is_join (option_and_then membership_of o)) is ∙ ap is_join join

  by_membership : (e : Event) → last_of (is_own user) es ≡ Some e → (m : Option Membership) → membership_of e ≡ m
      → said_by_own l user a room e m ≡ answer.Nothing
  by_membership e is None m_is = refl
  by_membership e is (Some Join) m_is =
      ap (joined l user a room) since_is
      ∙ ap (λ b. cond b (later l user a room t) (anew l user a room)) (joined_then e is m_is)
      ∙ sym (quiet_is l user a room t placed before going.0 quiet since_is)
  by_membership e is (Some Invite) m_is = off (is_after a.since e true) _ (not_after e true is)
  by_membership e is (Some Leave) m_is = off (is_after a.since e a.filter.include_leave) _ (not_after e a.filter.include_leave is)
  by_membership e is (Some Ban) m_is = off (is_after a.since e a.filter.include_leave) _ (not_after e a.filter.include_leave is)

  by_last : (o : Option Event) → last_of (is_own user) es ≡ o → said_by_last l user a room o ≡ answer.Nothing
  by_last None is = refl
  by_last (Some e) is = by_membership e is (membership_of e) refl

  unsaid : said_of l user a room ≡ answer.Nothing
  unsaid =
      way_is l user a room placed.events
      ∙ blank (filters.picks (server_of user) a.filter room) (said_by_last l user a room (last_of (is_own user) es)) (by_last (last_of (is_own user) es) refl)

-- the rooms in which something came are all of which something is said
pub news_are_all : (l : Lists) (user : List ℕ) (a : SyncAsk) (t : SyncToken) (placed : ArePlaced l) → is_before t (fronts_of l) ≡ true
    → a.since ≡ Some t → goes_on a.extent.full user l t ≡ true → (rooms : BTreeSet RoomId)
    → ((r : RoomId) → has_room rooms r ≡ has_news_of user l t r) → HasAllSaid rooms l user a
news_are_all l user a t placed before since_is goes rooms same = λ r none. unsaid l user a t placed before since_is goes r (sym (same r) ∙ none)

-- and so are the rooms in which the user has a member event
pub own_are_all : (l : Lists) (user : List ℕ) (a : SyncAsk) → stand_from position_of 1 l.events ≡ true → (rooms : BTreeSet RoomId)
    → ((r : RoomId) → has_room rooms r ≡ list_any (is_at r) (rooms_of user l.events)) → HasAllSaid rooms l user a
own_are_all l user a placed rooms same = λ r none.
    ap (said_by l user a r) (none_told l user a.filter a.extent r placed a.since (not_listed r user l.events (sym (same r) ∙ none)))
