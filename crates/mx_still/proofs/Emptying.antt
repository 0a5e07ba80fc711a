-- A reply without anything in it stays so where nothing came that concerns the user.
use Rattle.std.proofs.Common.{◌≡◌, ℕ, zero, suc, ◌+◌, ◌<◌, ◌≤◌, Bool, true, false, cond, not, ◌&&◌, ◌||◌, ◌==◌, List, [], ◌∷◌, ◌++◌, length, take, drop, filter, map, filter_map, fold, Option, Some, None, is_some, nat_lt, nat_le, nat_eq, codes, refl, ap, ap₂, sym, subst, ◌∙◌, append-nil, arith}
use Rattle.std.proofs.lemmas.Bool.{and_from, and_parts, eq-eqb, eqb-true, le-leb, leb-true}
use Rattle.std.proofs.lemmas.List.{length-take-le, take-append-drop, drop-append-le, nil_from_length}
use Rattle.std.proofs.lemmas.List.Elements.{filter-append}
use Rattle.std.proofs.lemmas.Slice.Eq.{bytes_eq-Decides}
use Rattle.std.specs.Cmp.Lexicographic.{slice_cmp}
use Rattle.std.proofs.lemmas.List.Sums.{fold-append}
use Rattle.std.specs.BTreeMap.{insert_entry}
use Rattle.std.specs.List.{AllByRecursion, cons_option, list_any}
use Rattle.std.specs.Map.{values_of}
use Rattle.std.specs.Ordering.{nat_cmp}
use Rattle.std.specs.Str.{bytes_eq}
use Rattle.mx_ids.specs.User.{server_of}
use Rattle.mx_ids.specs.declared.room_id.RoomId.{RoomId}
use Rattle.mx_ids.specs.declared.sync_token.SyncToken.{SyncToken}
use Rattle.mx_json.specs.declared.value.Json.{Json}
use Rattle.mx_account.specs.Entries as account
use Rattle.mx_account.specs.Entries.{content_of, is_data_of, is_of, kind_of}
use Rattle.mx_account.specs.declared.entry.Entry.{Entry}
use Rattle.mx_account.specs.declared.entry.Entry.TheVariants as entry
use Rattle.mx_event.specs.Kinds.{is_of as is_kind, member_type}
use Rattle.mx_event.specs.Lawful.{of_room, same_room}
use Rattle.mx_event.specs.Shown.{position_of}
use Rattle.mx_event.specs.declared.event.Event.{Event}
use Rattle.mx_event.proofs.Lawfully.{same_is}
use Rattle.mx_receipt.specs.Receipts as receipt
use Rattle.mx_receipt.specs.declared.receipt.Receipt.{Receipt}
use Rattle.mx_window.specs.Lasts.{last_of}
use Rattle.mx_window.specs.Windows.{stand_from}
use Rattle.mx_window.proofs.Each.{AllByRecursion-both, AllByRecursion-filter, AllByRecursion-none, AllByRecursion-weaker, list_any-none}
use Rattle.mx_window.proofs.Intervals.{between-take, between-within}
use Rattle.mx_window.proofs.Lasts.{is_some-last_of}
use Rattle.mx_folding.specs.Parts.{is_cons, picks}
use Rattle.mx_folding.specs.Sections.{window}
use Rattle.mx_folding.specs.Visible.{Membership, Join, Invite, Leave, Ban, joined_at}
use Rattle.mx_view.specs.Readings.{is_own, membership_of, viewer_of}
use Rattle.mx_view.specs.Rooms.{Sieve, hero_keys, room_of}
use Rattle.mx_view.specs.Tokens.{is_before}
use Rattle.mx_view.proofs.Orders.{before_parts}
use Rattle.mx_filter.specs.Passes as filters
use Rattle.mx_filter.specs.Sieves.{sieve_of}
use Rattle.mx_filter.specs.declared.parts.DataPart.TheVariants as kinds
use Rattle.mx_filter.specs.declared.parts.Selection.{Selection}
use Rattle.mx_fold.specs.Accounts.{is_global}
use Rattle.mx_fold.specs.Latest.{latest}
use Rattle.mx_fold.specs.Lists.{Lists, fronts_of, upto}
use Rattle.mx_fold.specs.Replies.{Extent, SyncAsk}
use Rattle.mx_lazy.specs.Summaries.{same_summary, same_texts}
use Rattle.mx_lazy.specs.declared.room_summary.Summary.{Summary}
use Rattle.mx_parts.specs.Sections.{is_limited, section_of, state_of}
use Rattle.mx_view.specs.Shows.{shown_for}
use Rattle.mx_parts.specs.declared.reading.Reading.{Reading}
use Rattle.mx_parts.specs.declared.window.Window.{Window}
use Rattle.mx_snapshot.specs.Accounts.{is_users}
use Rattle.mx_snapshot.specs.Events as snapshot
use Rattle.mx_snapshot.specs.Events.{rooms_of, with_own}
use Rattle.mx_snapshot.specs.Lists.{room_cmp}
use Rattle.mx_snapshot.specs.Looks.{last_position}
use Rattle.mx_snapshot.specs.Receipts as receipts
use Rattle.mx_rest.specs.Unread.Counts.{Counts}
use Rattle.mx_rest.specs.Accounts.{account_in, is_sent}
use Rattle.mx_rest.specs.Receipts.{itself, key_cmp, key_of, receipts_in, sees}
use Rattle.mx_rest.specs.Rests.{counts_in, delta_of, differs_of, heroes_if, news, same_counts, summary_in, summary_sent}
use Rattle.mx_rest.specs.Walks.{has_own, is_uncounted, last_event, last_rules}
use Rattle.mx_rest.proofs.Places.{news_is, none_after}
use Rattle.mx_rest.proofs.Quiet.{counts_quiet, summary_quiet}
use Rattle.mx_rest.proofs.UpTo.{ArePlaced}
use Rattle.mx_sync.specs.Asks.{reading, window_in}
use Rattle.mx_still.specs.Concerns.{StaysEmpty, has_member, is_still}
use Rattle.mx_sync.specs.Parts.{later_part, left_part, stripped_at}
use Rattle.mx_sync.specs.Replies.{all_said, invited_of, is_empty, joined_of, left_of, reply_of, said_of}
use Rattle.mx_sync.specs.Ways.{anew, has_news, joined, later, part_after, said_by_last, said_by_own, way}
use Rattle.mx_sync.specs.declared.room_reply.RoomReply.{RoomReply}
use Rattle.mx_sync.specs.declared.room_reply.RoomReply.TheVariants as answer
use Rattle.mx_sync.specs.declared.sync_reply.InvitedRoom.{InvitedRoom}
use Rattle.mx_sync.specs.declared.sync_reply.JoinedRoom.{JoinedRoom}
use Rattle.mx_sync.specs.declared.sync_reply.LeftRoom.{LeftRoom}
use Rattle.mx_sync.specs.declared.sync_reply.Reply.{Reply}
use Rattle.mx_sync.specs.declared.sync_reply.RoomRest.TheVariants as rest
use Rattle.mx_still.proofs.Resting.{room_says_same, says_some}
use Rattle.mx_sync.proofs.Reaching.{last_early}
use Rattle.mx_sync.proofs.Ways.{way_is}

-- ---- lists

not_false : (b : Bool) → not b ≡ true → b ≡ false
not_false true h = absurd cc
not_false false h = refl

fails_kept : {E : Type 0} (test : E → Bool) (xs : List E) → AllByRecursion (λ x. test x ≡ false) xs → filter test xs ≡ []
fails_kept test [] h = refl
fails_kept test (x ∷ xs) h = ap (λ b. cond b (x ∷ filter test xs) (filter test xs)) h.0 ∙ fails_kept test xs h.1

-- what a filter keeps of a list of which it keeps nothing past the first items
kept_early : {E : Type 0} (test : E → Bool) (n : ℕ) (xs : List E) → filter test (drop n xs) ≡ [] → filter test (take n xs) ≡ filter test xs
kept_early test n xs none =
    sym (append-nil (filter test (take n xs))) ∙ ap (λ l. filter test (take n xs) ++ l) (sym none) ∙ sym (filter-append test (take n xs) (drop n xs))
    ∙ ap (filter test) (take-append-drop n xs)

-- the same of what comes after an earlier place
kept_between : {E : Type 0} (test : E → Bool) (m n : ℕ) (xs : List E) → m ≤ n → n ≤ length xs → filter test (drop n xs) ≡ []
    → filter test (news (take m (take n xs)) (take n xs)) ≡ filter test (news (take m xs) xs)
kept_between test m n xs low high none =
    let first : length (take m (take n xs)) ≡ m = length-take-le m (take n xs) (subst (λ k. m ≤ k) (sym (length-take-le n xs high)) low) in
    let second : length (take m xs) ≡ m = length-take-le m xs (omega (arith, low, high)) in
    let within : m ≤ length (take n xs) = subst (λ k. m ≤ k) (sym (length-take-le n xs high)) low in
    ap (λ k. filter test (drop k (take n xs))) first
    ∙ sym (append-nil (filter test (drop m (take n xs))))
    ∙ ap (λ l. filter test (drop m (take n xs)) ++ l) (sym none)
    ∙ sym (filter-append test (drop m (take n xs)) (drop n xs))
    ∙ ap (filter test) (sym (drop-append-le m (take n xs) (drop n xs) within) ∙ ap (drop m) (take-append-drop n xs))
    ∙ ap (λ k. filter test (drop k xs)) (sym second)

take_within : {E : Type 0} (m n : ℕ) (xs : List E) → m ≤ n → take m (take n xs) ≡ take m xs
take_within zero n xs h = refl
take_within (suc m) zero xs h = absurd (omega (arith, h))
take_within (suc m) (suc n) [] h = refl
take_within (suc m) (suc n) (x ∷ xs) h = ap (λ l. x ∷ l) (take_within m n xs (omega (arith, h)))

is_cons-map : {E F : Type 0} (f : E → F) (xs : List E) → is_cons (map f xs) ≡ is_cons xs
is_cons-map f [] = refl
is_cons-map f (x ∷ xs) = refl

-- ---- counts and summaries that are the same

counts_same : (a b : Counts) → same_counts a b ≡ true → a ≡ b
counts_same a b h =
    let parts = and_parts (nat_eq a.notifications b.notifications) (nat_eq a.highlights b.highlights) h in
    λ i. record { notifications = eqb-true a.notifications b.notifications parts.0 i; highlights = eqb-true a.highlights b.highlights parts.1 i }

texts_same : (xs ys : List (List ℕ)) → same_texts xs ys ≡ true → xs ≡ ys
texts_same [] [] h = refl
texts_same [] (y ∷ ys) h = absurd cc
texts_same (x ∷ xs) [] h = absurd cc
texts_same (x ∷ xs) (y ∷ ys) h =
    let parts = and_parts (bytes_eq x y) (same_texts xs ys) h in
    λ i. (bytes_eq-Decides x y).0 parts.0 i ∷ texts_same xs ys parts.1 i

summary_same : (a b : Summary) → same_summary a b ≡ true → a ≡ b
summary_same a b h =
    let one = and_parts (same_texts a.heroes b.heroes) (nat_eq a.joined b.joined && nat_eq a.invited b.invited) h in
    let two = and_parts (nat_eq a.joined b.joined) (nat_eq a.invited b.invited) one.1 in
    λ i. record { heroes = texts_same a.heroes b.heroes one.0 i; joined = eqb-true a.joined b.joined two.0 i; invited = eqb-true a.invited b.invited two.1 i }

unsent_same : (a b : Summary) → None ≡ summary_sent a b → a ≡ b
unsent_same a b h = by (same_summary a b) refl h where
  by : (k : Bool) → same_summary a b ≡ k → None ≡ cond k None (Some b) → a ≡ b
  by true is h = summary_same a b is
  by false is h = absurd cc

counted_same : (a b : Counts) → false ≡ not (same_counts a b) → a ≡ b
counted_same a b h = by (same_counts a b) refl h where
  by : (k : Bool) → same_counts a b ≡ k → false ≡ not k → a ≡ b
  by true is h = counts_same a b is
  by false is h = absurd cc

-- ---- what is the user's

data_users : (user : List ℕ) (room : Option RoomId) (e : Entry) → is_users user e ≡ false → is_of user room e ≡ false
data_users user room (entry.Data own_user own_room kind content at) h = ap (λ b. b && account.same_room own_room room) h
data_users user room (entry.Filter own_user id filter at) h = refl

rules_users : (user kind : List ℕ) (e : Entry) → is_users user e ≡ false → is_data_of user None kind e ≡ false
rules_users user kind (entry.Data own_user own_room own_kind content at) h = ap (λ b. (b && account.same_room own_room None) && bytes_eq own_kind kind) h
rules_users user kind (entry.Filter own_user id filter at) h = refl

stand_take : {E : Type 0} (at : E → ℕ) (first n : ℕ) (xs : List E) → stand_from at first xs ≡ true → stand_from at first (take n xs) ≡ true
stand_take at first zero xs h = refl
stand_take at first (suc n) [] h = refl
stand_take at first (suc n) (x ∷ xs) h =
    let parts = and_parts (nat_eq (at x) first) (stand_from at (first + 1) xs) h in
    and_from (nat_eq (at x) first) (stand_from at (first + 1) (take n xs)) parts.0 (stand_take at (first + 1) n xs parts.1)

-- an item that passes is found
all_found : {E : Type 0} (xs : List E) → AllByRecursion (λ x. (p : E → Bool) → p x ≡ true → list_any p xs ≡ true) xs
all_found [] = tt
all_found {E = E} (x ∷ xs) = (
  (λ p is. ap (λ b. b || list_any p xs) is),
  AllByRecursion-weaker (λ y. (p : E → Bool) → p y ≡ true → list_any p xs ≡ true) (λ y. (p : E → Bool) → p y ≡ true → (p x || list_any p xs) ≡ true)
      (λ y h p is. either (p x) (list_any p xs) (h p is)) xs (all_found xs),
) where
  either : (a b : Bool) → b ≡ true → (a || b) ≡ true
  either true b is = refl
  either false b is = is

any_append : {E : Type 0} (p : E → Bool) (xs ys : List E) → list_any p (xs ++ ys) ≡ (list_any p xs || list_any p ys)
any_append p [] ys = refl
any_append p (x ∷ xs) ys = ap (λ b. p x || b) (any_append p xs ys) ∙ assoc (p x) (list_any p xs) (list_any p ys) where
  assoc : (a b c : Bool) → (a || (b || c)) ≡ ((a || b) || c)
  assoc true b c = refl
  assoc false b c = refl

any_inside : {E : Type 0} (p q : E → Bool) (xs : List E) → list_any q (filter p xs) ≡ list_any (λ x. p x && q x) xs
any_inside p q [] = refl
any_inside p q (x ∷ xs) = by (p x) (any_inside p q xs) where
  by : (b : Bool) → list_any q (filter p xs) ≡ list_any (λ y. p y && q y) xs
      → list_any q (cond b (x ∷ filter p xs) (filter p xs)) ≡ ((b && q x) || list_any (λ y. p y && q y) xs)
  by true h = ap (λ b. q x || b) h
  by false h = h

or_true : (a b : Bool) → b ≡ true → (a || b) ≡ true
or_true true b h = refl
or_true false b h = h

room_itself : (r : RoomId) → same_room r r ≡ true
room_itself r = and_from (r.writer == r.writer) (r.at == r.at) (eq-eqb r.writer r.writer refl) (eq-eqb r.at r.at refl)

-- ---- one room

unjoined : (b : Bool) (r : JoinedRoom) → cond b (answer.Joined r) answer.Nothing ≡ answer.Nothing → b ≡ false
unjoined true r h = absurd cc
unjoined false r h = refl

uninvited : (b : Bool) (r : InvitedRoom) → cond b (answer.Invited r) answer.Nothing ≡ answer.Nothing → b ≡ false
uninvited true r h = absurd cc
uninvited false r h = refl

unleft : (b : Bool) (r : LeftRoom) → cond b (answer.Left r) answer.Nothing ≡ answer.Nothing → b ≡ false
unleft true r h = absurd cc
unleft false r h = refl

module _ (l : Lists) (user : List ℕ) (t : SyncToken) (placed : ArePlaced l) (before : is_before t (fronts_of l) ≡ true)
    (still : is_still user l t ≡ true) where
  abbrev k : Lists
  k = upto t l

  reach : (t.e ≤ length l.events) × (t.r ≤ length l.receipts) × (t.a ≤ length l.accounts) × (t.d ≤ 0)
  reach = before_parts t (fronts_of l) before

  abbrev events_any : Bool
  events_any = list_any (λ (e : Event). has_member user l e.room) (drop t.e l.events)

  abbrev receipts_any : Bool
  receipts_any = list_any (λ (x : Receipt). has_member user l x.room) (drop t.r l.receipts)

  abbrev last_entry : ℕ
  last_entry = last_position account.position_of (is_users user) l.accounts

  three : (not events_any ≡ true) × (not receipts_any ≡ true) × (last_entry ≤ t.a)
  three =
      let one = and_parts (not events_any) (not receipts_any && nat_le last_entry t.a) still in
      let two = and_parts (not receipts_any) (nat_le last_entry t.a) one.1 in
      (one.0, two.0, leb-true last_entry t.a two.1)

  no_event : AllByRecursion (λ (e : Event). has_member user l e.room ≡ false) (drop t.e l.events)
  no_event = AllByRecursion-none (λ (e : Event). has_member user l e.room) (drop t.e l.events) (not_false events_any three.0)

  no_receipt : AllByRecursion (λ (x : Receipt). has_member user l x.room ≡ false) (drop t.r l.receipts)
  no_receipt = AllByRecursion-none (λ (x : Receipt). has_member user l x.room) (drop t.r l.receipts) (not_false receipts_any three.1)

  no_entry : AllByRecursion (λ (e : Entry). is_users user e ≡ false) (drop t.a l.accounts)
  no_entry =
      AllByRecursion-none (is_users user) (drop t.a l.accounts)
      (ap (λ n. list_any (is_users user) (drop n l.accounts)) (sym (length-take-le t.a l.accounts reach.2))
      ∙ ap (list_any (is_users user)) (news_is account.position_of l.accounts placed.accounts t.a reach.2)
      ∙ none_after account.position_of l.accounts placed.accounts (is_users user) t.a reach.2 three.2)

  no_rules : list_any (is_data_of user None (codes "m.push_rules")) (drop t.a l.accounts) ≡ false
  no_rules =
      list_any-none (is_data_of user None (codes "m.push_rules")) (drop t.a l.accounts)
      (AllByRecursion-weaker (λ (e : Entry). is_users user e ≡ false) (λ (e : Entry). is_data_of user None (codes "m.push_rules") e ≡ false)
      (rules_users user (codes "m.push_rules")) (drop t.a l.accounts) no_entry)

  placed_then : ArePlaced k
  placed_then = record {
    events = stand_take position_of 1 t.e l.events placed.events;
    receipts = stand_take receipt.position_of 1 t.r l.receipts placed.receipts;
    accounts = stand_take account.position_of 1 t.a l.accounts placed.accounts;
  }

  module _ (room : RoomId) (there : has_member user l room ≡ true) where
    abbrev of_it : Event → Bool
    of_it e = same_room e.room room

    abbrev es : List Event
    es = of_room room l.events

    apart : (q : RoomId) → has_member user l q ≡ false → same_room q room ≡ false
    apart q absent = by (same_room q room) refl where
      by : (b : Bool) → same_room q room ≡ b → b ≡ false
      by true is = let bad : true ≡ false = sym there ∙ ap (has_member user l) (sym (same_is q room is)) ∙ absent in absurd cc
      by false is = refl

    none_of_it : AllByRecursion (λ (e : Event). of_it e ≡ false) (drop t.e l.events)
    none_of_it =
        AllByRecursion-weaker (λ (e : Event). has_member user l e.room ≡ false) (λ (e : Event). of_it e ≡ false) (λ e h. apart e.room h) (drop t.e l.events) no_event

    es_same : of_room room (take t.e l.events) ≡ es
    es_same = kept_early of_it t.e l.events (fails_kept of_it (drop t.e l.events) none_of_it)

    within : AllByRecursion (λ (e : Event). e.id.at ≤ t.e) es
    within =
        subst (AllByRecursion (λ (e : Event). e.id.at ≤ t.e)) es_same
        (AllByRecursion-filter (λ (e : Event). e.id.at ≤ t.e) of_it (take t.e l.events)
        (AllByRecursion-weaker (λ (e : Event). (0 < e.id.at) × (e.id.at ≤ t.e)) (λ (e : Event). e.id.at ≤ t.e) (λ e h. h.1) (take t.e l.events)
        (subst (AllByRecursion (λ (e : Event). (0 < e.id.at) × (e.id.at ≤ t.e))) (between-take position_of t.e l.events placed.events)
        (between-within position_of 0 t.e l.events))))

    event_up : last_event room l ≤ t.e
    event_up = last_early position_of of_it t.e l.events placed.events (list_any-none of_it (drop t.e l.events) none_of_it)

    member_up : last_position position_of (snapshot.is_member room) l.events ≤ t.e
    member_up =
        last_early position_of (snapshot.is_member room) t.e l.events placed.events
        (list_any-none (snapshot.is_member room) (drop t.e l.events)
        (AllByRecursion-weaker (λ (e : Event). of_it e ≡ false) (λ (e : Event). snapshot.is_member room e ≡ false)
        (λ e h. ap (λ b. b && (is_kind member_type e && is_some e.state_key)) h) (drop t.e l.events) none_of_it))

    rules_up : last_rules user l ≤ t.a
    rules_up = last_early account.position_of (is_data_of user None (codes "m.push_rules")) t.a l.accounts placed.accounts no_rules

    receipts_none : receipts.of_room room (drop t.r l.receipts) ≡ []
    receipts_none =
        fails_kept (λ (x : Receipt). same_room x.room room) (drop t.r l.receipts)
        (AllByRecursion-weaker (λ (x : Receipt). has_member user l x.room ≡ false) (λ (x : Receipt). same_room x.room room ≡ false)
        (λ x h. apart x.room h) (drop t.r l.receipts) no_receipt)

    new_receipts : receipts.of_room room (news (take t.r l.receipts) l.receipts) ≡ []
    new_receipts = ap (λ n. receipts.of_room room (drop n l.receipts)) (length-take-le t.r l.receipts reach.1) ∙ receipts_none

    uncounted : is_uncounted room user l t (receipts.of_room room (news (take t.r l.receipts) l.receipts)) ≡ true
    uncounted =
        and_from (nat_le (last_event room l) t.e)
        (nat_le (last_rules user l) t.a && not (has_own user (receipts.of_room room (news (take t.r l.receipts) l.receipts))))
        (le-leb (last_event room l) t.e event_up)
        (and_from (nat_le (last_rules user l) t.a) (not (has_own user (receipts.of_room room (news (take t.r l.receipts) l.receipts))))
        (le-leb (last_rules user l) t.a rules_up)
        (ap (λ (ys : List Receipt). not (has_own user ys)) new_receipts))

    counts : counts_in user room k ≡ counts_in user room l
    counts =
        counted_same (counts_in user room k) (counts_in user room l)
        (counts_quiet room user l placed t before (receipts.of_room room (news (take t.r l.receipts) l.receipts)) refl uncounted)

    summary : summary_in user room k ≡ summary_in user room l
    summary =
        unsent_same (summary_in user room k) (summary_in user room l)
        (summary_quiet room user l placed t before (last_position position_of (snapshot.is_member room) l.events) refl member_up)

    module _ (f : Selection) (x : Extent) (since : SyncToken) (low : is_before since t ≡ true) where
      abbrev asking : SyncAsk
      asking = record { filter = f; since = Some since; extent = x }

      lows : (since.e ≤ t.e) × (since.r ≤ t.r) × (since.a ≤ t.a) × (since.d ≤ t.d)
      lows = before_parts since t low

      early : upto since k ≡ upto since l
      early = λ i. record {
        events = take_within since.e t.e l.events lows.0 i;
        receipts = take_within since.r t.r l.receipts lows.1 i;
        accounts = take_within since.a t.a l.accounts lows.2 i;
      }

      receipts_same : receipts_in f user room (news (take since.r (take t.r l.receipts)) (take t.r l.receipts))
          ≡ receipts_in f user room (news (take since.r l.receipts) l.receipts)
      receipts_same =
          ap (λ (ys : List Receipt). values_of (latest key_cmp key_of itself (filter (sees f user) ys)))
          (kept_between (λ (y : Receipt). same_room y.room room) since.r t.r l.receipts lows.1 reach.1 receipts_none)

      none_sent : filter (is_sent f user room) (drop t.a l.accounts) ≡ []
      none_sent =
          fails_kept (is_sent f user room) (drop t.a l.accounts)
          (AllByRecursion-weaker (λ (e : Entry). is_users user e ≡ false) (λ (e : Entry). is_sent f user room e ≡ false)
          (λ e h. ap (λ b. b && filters.passes_type f kinds.RoomAccount (kind_of e)) (data_users user (Some room) e h)) (drop t.a l.accounts) no_entry)

      account_same : account_in f user room (news (take since.a (take t.a l.accounts)) (take t.a l.accounts))
          ≡ account_in f user room (news (take since.a l.accounts) l.accounts)
      account_same =
          ap (λ (ys : List Entry). latest (slice_cmp nat_cmp) kind_of content_of ys)
          (kept_between (is_sent f user room) since.a t.a l.accounts lows.2 reach.2 none_sent)

      differs_same : differs_of user f room (upto since k) k ≡ differs_of user f room (upto since l) l
      differs_same = λ i. is_cons (receipts_same i)
          || (is_cons (account_same i)
          || (not (same_counts (counts_in user room (early i)) (counts i)) || not (same_summary (summary_in user room (early i)) (summary i))))

      abbrev heroes : Lists → List (List ℕ)
      heroes m = heroes_if (summary_sent (summary_in user room (upto since m)) (summary_in user room m))

      heroes_same : heroes k ≡ heroes l
      heroes_same = λ i. heroes_if (summary_sent (summary_in user room (early i)) (summary i))

      abbrev sv : Sieve
      sv = sieve_of (server_of user) f room

      abbrev picked : List Event → List (List ℕ) → List Event → Event → Bool
      picked xs hs = picks (room_of sv user xs) f.redundant since.b since.e (cond x.full 0 since.e) (hero_keys hs)

      abbrev says : List Event → ℕ → List (List ℕ) → Bool
      says xs n hs = says_some (room_of sv user xs) xs n (window x.after x.limit since.e n) (picked xs hs)

      news_as : (m : Lists) (hs : List (List ℕ)) → has_news (later_part m user asking hs room) ≡ says (of_room room m.events) (length m.events) hs
      news_as m hs =
          let v : Reading = reading m user asking room in
          let w : Window = window_in asking since.e (length m.events) in
          let pick : List Event → Event → Bool = picked (of_room room m.events) hs in
          ap₂ (λ a b. is_limited v w || (a || b)) (is_cons-map (shown_for user (of_room room m.events) (length m.events)) (state_of v w pick))
          (is_cons-map (shown_for user (of_room room m.events) (length m.events)) (section_of v w))

      news_same : has_news (part_after k user asking room since) ≡ has_news (part_after l user asking room since)
      news_same =
          news_as k (heroes k)
          ∙ ap (λ (hs : List (List ℕ)). says (of_room room (take t.e l.events)) (length (take t.e l.events)) hs) heroes_same
          ∙ ap (λ (xs : List Event). says xs (length (take t.e l.events)) (heroes l)) es_same
          ∙ ap (λ n. says es n (heroes l)) (length-take-le t.e l.events reach.0)
          ∙ room_says_same sv user es t.e (length l.events) reach.0 within since.e x.after x.limit (picked es (heroes l))
          ∙ sym (news_as l (heroes l))

      later_stays : later k user asking room since ≡ answer.Nothing → later l user asking room since ≡ answer.Nothing
      later_stays h =
          let quiet : (has_news (part_after k user asking room since) || differs_of user f room (upto since k) k) ≡ false =
          unjoined (has_news (part_after k user asking room since) || differs_of user f room (upto since k) k)
          (record { room = room; after = x.after; part = part_after k user asking room since; rest = rest.Changed (delta_of user f room (upto since k) k) }) h in
          ap (λ b. cond b (answer.Joined
          (record { room = room; after = x.after; part = part_after l user asking room since; rest = rest.Changed (delta_of user f room (upto since l) l) })) answer.Nothing)
          (sym (λ i. news_same i || differs_same i) ∙ quiet)

      joined_stays : joined k user asking room (Some since) ≡ answer.Nothing → joined l user asking room (Some since) ≡ answer.Nothing
      joined_stays h =
          by_stay (joined_at (viewer_of user) es since.e)
          (ap (λ (xs : List Event). cond (joined_at (viewer_of user) xs since.e) (later k user asking room since) (anew k user asking room)) (sym es_same) ∙ h) where
            by_stay : (b : Bool) → cond b (later k user asking room since) (anew k user asking room) ≡ answer.Nothing
                → cond b (later l user asking room since) (anew l user asking room) ≡ answer.Nothing
            by_stay true is = later_stays is
            by_stay false is = absurd cc

      own_stays : (e : Event) (m : Option Membership) → said_by_own k user asking room e m ≡ answer.Nothing
          → said_by_own l user asking room e m ≡ answer.Nothing
      own_stays e None h = refl
      own_stays e (Some Join) h = joined_stays h
      own_stays e (Some Invite) h =
          ap (λ b. cond b (answer.Invited (record { room = room; state = stripped_at l user asking room e })) answer.Nothing)
          (uninvited (nat_lt since.e e.id.at) (record { room = room; state = stripped_at k user asking room e }) h)
      own_stays e (Some Leave) h =
          ap (λ b. cond b (answer.Left (record { room = room; after = x.after; part = left_part l user asking room })) answer.Nothing)
          (unleft (nat_lt since.e e.id.at) (record { room = room; after = x.after; part = left_part k user asking room }) h)
      own_stays e (Some Ban) h =
          ap (λ b. cond b (answer.Left (record { room = room; after = x.after; part = left_part l user asking room })) answer.Nothing)
          (unleft (nat_lt since.e e.id.at) (record { room = room; after = x.after; part = left_part k user asking room }) h)

      last_stays : (o : Option Event) → said_by_last k user asking room o ≡ answer.Nothing → said_by_last l user asking room o ≡ answer.Nothing
      last_stays None h = refl
      last_stays (Some e) h = own_stays e (membership_of e) h

      there_stays : way k user asking room ≡ answer.Nothing → way l user asking room ≡ answer.Nothing
      there_stays h =
          by_pick (filters.picks (server_of user) f room)
          (ap (λ (xs : List Event). cond (filters.picks (server_of user) f room) (said_by_last k user asking room (last_of (is_own user) xs)) answer.Nothing)
          (sym es_same) ∙ h) where
            by_pick : (b : Bool) → cond b (said_by_last k user asking room (last_of (is_own user) es)) answer.Nothing ≡ answer.Nothing
                → cond b (said_by_last l user asking room (last_of (is_own user) es)) answer.Nothing ≡ answer.Nothing
            by_pick true is = last_stays (last_of (is_own user) es) is
            by_pick false is = refl

  -- ---- every room

  module _ (f : Selection) (x : Extent) (since : SyncToken) (low : is_before since t ≡ true) where
    abbrev ask : SyncAsk
    ask = record { filter = f; since = Some since; extent = x }

    way_stays : (room : RoomId) → way k user ask room ≡ answer.Nothing → way l user ask room ≡ answer.Nothing
    way_stays room h = by (last_of (is_own user) (of_room room l.events)) refl where
      either : (b : Bool) → ◌≡◌ {A = RoomReply} (cond b answer.Nothing answer.Nothing) answer.Nothing
      either true = refl
      either false = refl

      by : (o : Option Event) → last_of (is_own user) (of_room room l.events) ≡ o → way l user ask room ≡ answer.Nothing
      by None is =
          ap (λ (o : Option Event). cond (filters.picks (server_of user) f room) (said_by_last l user ask room o) answer.Nothing) is
          ∙ either (filters.picks (server_of user) f room)
      by (Some e) is = there_stays room (ap (λ (o : Option Event). is_some o) is) f x since low h

    said_stays : (room : RoomId) → said_of k user ask room ≡ answer.Nothing → said_of l user ask room ≡ answer.Nothing
    said_stays room h =
        way_is l user ask room placed.events ∙ way_stays room (sym (way_is k user ask room placed_then.events) ∙ h)

    nothing_by : (s : RoomReply) (js : List JoinedRoom) (is : List InvitedRoom) (ls : List LeftRoom)
        → cons_option (joined_of s) js ≡ [] → cons_option (invited_of s) is ≡ [] → cons_option (left_of s) ls ≡ []
        → (s ≡ answer.Nothing) × (js ≡ []) × (is ≡ []) × (ls ≡ [])
    nothing_by answer.Nothing js is ls a b c = (refl, a, b, c)
    nothing_by (answer.Joined r) js is ls a b c = absurd cc
    nothing_by (answer.Invited r) js is ls a b c = absurd cc
    nothing_by (answer.Left r) js is ls a b c = absurd cc

    all_nothing : (rs : List (RoomId × Event)) → filter_map joined_of (all_said k user ask rs) ≡ [] → filter_map invited_of (all_said k user ask rs) ≡ []
        → filter_map left_of (all_said k user ask rs) ≡ []
        → (filter_map joined_of (all_said l user ask rs) ≡ []) × (filter_map invited_of (all_said l user ask rs) ≡ [])
        × (filter_map left_of (all_said l user ask rs) ≡ [])
    all_nothing [] a b c = (refl, refl, refl)
    all_nothing (r ∷ rs) a b c =
        let four = nothing_by (said_of k user ask r.0) (filter_map joined_of (all_said k user ask rs)) (filter_map invited_of (all_said k user ask rs))
        (filter_map left_of (all_said k user ask rs)) a b c in
        let rest = all_nothing rs four.1 four.2 four.3 in
        let here : said_of l user ask r.0 ≡ answer.Nothing = said_stays r.0 four.0 in (
          ap (λ s. cons_option (joined_of s) (filter_map joined_of (all_said l user ask rs))) here ∙ rest.0,
          ap (λ s. cons_option (invited_of s) (filter_map invited_of (all_said l user ask rs))) here ∙ rest.1,
          ap (λ s. cons_option (left_of s) (filter_map left_of (all_said l user ask rs))) here ∙ rest.2,
        )

    -- ---- the user's rooms are the same

    no_own : AllByRecursion (λ (e : Event). snapshot.is_own user e ≡ false) (drop t.e l.events)
    no_own =
        AllByRecursion-weaker (λ (e : Event). (has_member user l e.room ≡ false) × ((p : Event → Bool) → p e ≡ true → list_any p (drop t.e l.events) ≡ true))
        (λ (e : Event). snapshot.is_own user e ≡ false) (λ e h. by e h.0 h.1 (snapshot.is_own user e) refl) (drop t.e l.events)
        (AllByRecursion-both (λ (e : Event). has_member user l e.room ≡ false)
        (λ (e : Event). (p : Event → Bool) → p e ≡ true → list_any p (drop t.e l.events) ≡ true) (drop t.e l.events) no_event (all_found (drop t.e l.events))) where
          by : (e : Event) → has_member user l e.room ≡ false → ((p : Event → Bool) → p e ≡ true → list_any p (drop t.e l.events) ≡ true)
              → (b : Bool) → snapshot.is_own user e ≡ b → b ≡ false
          by e absent found false is = refl
          by e absent found true is =
              let p : Event → Bool = λ d. same_room d.room e.room && is_own user d in
              let late : list_any p (drop t.e l.events) ≡ true = found p (and_from (same_room e.room e.room) (is_own user e) (room_itself e.room) is) in
              let all : list_any p l.events ≡ true =
              ap (list_any p) (sym (take-append-drop t.e l.events)) ∙ any_append p (take t.e l.events) (drop t.e l.events)
              ∙ or_true (list_any p (take t.e l.events)) (list_any p (drop t.e l.events)) late in
              let bad : true ≡ false =
              sym all ∙ sym (any_inside (λ (d : Event). same_room d.room e.room) (is_own user) l.events)
              ∙ is_some-last_of (is_own user) (of_room e.room l.events) ∙ absent in
              absurd cc

    unfolded : (rs : List (RoomId × Event)) (ds : List Event) → AllByRecursion (λ (e : Event). snapshot.is_own user e ≡ false) ds → fold (with_own user) rs ds ≡ rs
    unfolded rs [] h = refl
    unfolded rs (d ∷ ds) h =
        ap (λ b. fold (with_own user) (cond b (insert_entry room_cmp rs d.room d) rs) ds) h.0 ∙ unfolded rs ds h.1

    rooms_same : rooms_of user (take t.e l.events) ≡ rooms_of user l.events
    rooms_same =
        sym (unfolded (rooms_of user (take t.e l.events)) (drop t.e l.events) no_own)
        ∙ sym (fold-append (with_own user) [] (take t.e l.events) (drop t.e l.events))
        ∙ ap (fold (with_own user) []) (take-append-drop t.e l.events)

    -- ---- account data

    account_stays : (reply_of k user ask).account ≡ (reply_of l user ask).account
    account_stays =
        let lows = before_parts since t low in
        let at_then : since.a ≤ length (take t.a l.accounts) = subst (λ n. since.a ≤ n) (sym (length-take-le t.a l.accounts reach.2)) lows.2 in
        let low_a : since.a ≤ t.a = lows.2 in
        let high_a : t.a ≤ length l.accounts = reach.2 in
        let none : filter (is_global f user) (drop t.a l.accounts) ≡ [] =
        fails_kept (is_global f user) (drop t.a l.accounts)
        (AllByRecursion-weaker (λ (e : Entry). is_users user e ≡ false) (λ (e : Entry). is_global f user e ≡ false)
        (λ e h. ap (λ b. b && filters.passes_type f kinds.Account (kind_of e)) (data_users user None e h)) (drop t.a l.accounts) no_entry) in
        ap (λ (ys : List Entry). latest (slice_cmp nat_cmp) kind_of content_of ys)
        (ap (filter (is_global f user)) (sym (news_is account.position_of (take t.a l.accounts) placed_then.accounts since.a at_then))
        ∙ kept_between (is_global f user) since.a t.a l.accounts low_a high_a none
        ∙ ap (filter (is_global f user)) (news_is account.position_of l.accounts placed.accounts since.a (omega (arith, low_a, high_a))))

    -- ---- the reply

    nil_by : {A : Type 0} (xs : List A) → (length xs == 0) ≡ true → xs ≡ []
    nil_by xs h = nil_from_length xs (eqb-true (length xs) 0 h)

    empty_stays : is_empty (reply_of k user ask) ≡ true → is_empty (reply_of l user ask) ≡ true
    empty_stays h =
        let old : Reply = reply_of k user ask in
        let new : Reply = reply_of l user ask in
        let one = and_parts (length old.account == 0) ((length old.joined == 0) && ((length old.invited == 0) && (length old.left == 0))) h in
        let two = and_parts (length old.joined == 0) ((length old.invited == 0) && (length old.left == 0)) one.1 in
        let three = and_parts (length old.invited == 0) (length old.left == 0) two.1 in
        let all = all_nothing (rooms_of user (take t.e l.events)) (nil_by old.joined two.0) (nil_by old.invited three.0) (nil_by old.left three.1) in
        let same = rooms_same in
        let joined_none : new.joined ≡ [] = ap (λ rs. filter_map joined_of (all_said l user ask rs)) (sym same) ∙ all.0 in
        let invited_none : new.invited ≡ [] = ap (λ rs. filter_map invited_of (all_said l user ask rs)) (sym same) ∙ all.1 in
        let left_none : new.left ≡ [] = ap (λ rs. filter_map left_of (all_said l user ask rs)) (sym same) ∙ all.2 in
        and_from (length new.account == 0) ((length new.joined == 0) && ((length new.invited == 0) && (length new.left == 0)))
        (ap (λ (xs : List (List ℕ × Json)). length xs == 0) (sym account_stays) ∙ one.0)
        (and_from (length new.joined == 0) ((length new.invited == 0) && (length new.left == 0))
        (ap (λ (xs : List JoinedRoom). length xs == 0) joined_none)
        (and_from (length new.invited == 0) (length new.left == 0) (ap (λ (xs : List InvitedRoom). length xs == 0) invited_none)
        (ap (λ (xs : List LeftRoom). length xs == 0) left_none)))

pub stays_empty : StaysEmpty
stays_empty l user a since t events receipts accounts is low before still empty =
    let placed : ArePlaced l = record { events = events; receipts = receipts; accounts = accounts } in
    subst (λ (s : Option SyncToken). is_empty (reply_of (upto t l) user (record { filter = a.filter; since = s; extent = a.extent })) ≡ true
    → is_empty (reply_of l user (record { filter = a.filter; since = s; extent = a.extent })) ≡ true) (sym is)
    (empty_stays l user t placed before still a.filter a.extent since low) empty
