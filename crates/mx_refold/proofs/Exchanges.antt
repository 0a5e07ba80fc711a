-- Each exchange keeps what a device's chain comes to, whatever the fronts of its pages.
use Rattle.std.proofs.Common.{◌≡◌, ℕ, ◌≤◌, Bool, true, false, cond, max, nat_eq, List, [], ◌∷◌, Option, Some, None, IfSome, option_map, refl, sym, ap, ◌∙◌, subst, inl, inr, arith}
use Rattle.std.specs.Prelude.{⊤, ◌&&◌, nat_le}
use Rattle.std.specs.Option.{option_or}
use Rattle.std.proofs.lemmas.Bool.{cases_Bool, and_parts, eqb-true, leb-true}
use Rattle.mx_window.proofs.Each.{map-same}
use Rattle.mx_window.proofs.Lasts.{option_or-none}
use Rattle.mx_ids.specs.declared.room_id.RoomId.{RoomId}
use Rattle.mx_ids.specs.declared.sync_token.SyncToken.{SyncToken}
use Rattle.mx_event.specs.Lawful.{same_room}
use Rattle.mx_event.specs.declared.event.Event.{Event}
use Rattle.mx_event.proofs.Lawfully.{same_is as same_room_is, rooms_are_valid}
use Rattle.mx_folding.specs.Rooms.{Room}
use Rattle.mx_folding.specs.Longer.{judged_by}
use Rattle.mx_folding.specs.Redactions.{redact_by}
use Rattle.mx_folding.specs.Clients.{Entry, Held, Open, ClientRoom, held, redact_entry, with_page}
use Rattle.mx_folding.specs.Parts.{Page, page_of}
use Rattle.mx_folding.specs.Stories.{position, Story, IsStory, told, standing, Holding, with_told, HoldingAgrees, IsNext, IsBase}
use Rattle.mx_folding.specs.Chains as chains
use Rattle.mx_folding.specs.Chains.{new_client, Opening, Turn, Synced, Paged, with_paged, after_turn, IsOpen}
use Rattle.mx_view.specs.Rooms.{Key, room_of}
use Rattle.mx_view.specs.Tokens.{tokens, same_token, next_token}
use Rattle.mx_view.proofs.Orders.{before_parts, are_tokens, same_is}
use Rattle.mx_view.proofs.Stories.{valid_is_story}
use Rattle.mx_filter.specs.Passes as filters
use Rattle.mx_filter.specs.Sieves as sieves
use Rattle.mx_filter.specs.Sieves.{sieve_of}
use Rattle.mx_filter.specs.declared.parts.Selection.{Selection}
use Rattle.mx_filter.proofs.Sames.{filters_are, by_type}
use Rattle.mx_fold.specs.Lists.{Lists, Histories, AreLawful, no_lists, upto, fronts_of, lists_of, lists_at, events_in}
use Rattle.mx_fold.specs.Servers.{Server, RestsFold, rest_of, story}
use Rattle.mx_fold.specs.Accounts.{content_at, account_at, account_sent}
use Rattle.mx_fold.specs.Replies.{Extent, sync_in, SyncAsk, PageAsk, Ask, Syncs, Pages, Else, Replied, Showed, PassedOver, Reply, asked_gap, is_behind, heroes_in, reply_of, page_asked, sees_room, answer_to}
use Rattle.mx_fold.specs.Clients.{Client, nothing_held, after_reply, with_reply, page_into, after_page, opening_of, with_gap, with_shown, with_said, chain, Agrees}
use Rattle.mx_fold.specs.Exchanges.{Mark, exchange_at, exchanges}
use Rattle.mx_fold.specs.Anywhere.{after_exchange}
use Rattle.mx_fold.proofs.Readers.{same_told_read, page_read}
use Rattle.mx_fold.proofs.Marked.{mark_upto, events_stand, accounts_stand, told_at_mark, page_at_mark}
use Rattle.mx_fold.proofs.Accounts.{account_new, account_more, account_at_mark}
use Rattle.mx_fold.proofs.Picturing.{holds_picture}
use Rattle.mx_fold.proofs.Turns.{Found, found_in}
use Rattle.mx_refold.specs.Redacted.{room_redacted, joined_redacted, holding_redacted}
use Rattle.mx_refold.specs.Chains.{IsReached, IsAnyTurn}
use Rattle.mx_refold.specs.Clients.{redacted_client, ClientsRedact}
use Rattle.mx_refold.proofs.Holdings.{gap_order, IsSeenFrom}
use Rattle.mx_refold.proofs.Cuts.{seen_from}
use Rattle.mx_refold.proofs.Chains.{Sound, sound_new, sound_turn}

-- what a client redacts doesn't depend on any list
module _ {E K : Type 0} (r : Room E K) (sends : ℕ → E → Bool) (stayed : ℕ → ℕ → Bool) where
  entry_alike : (by : List E) (entry : Entry E) → redact_entry (judged_by r sends stayed) by entry ≡ redact_entry r by entry
  entry_alike by (Held c) = refl
  entry_alike by (Open gap) = refl

  room_alike : (room : ClientRoom E K) → room_redacted (judged_by r sends stayed) room ≡ room_redacted r room
  room_alike room =
      let by : List E = held room.timeline in
      let timeline = map-same (redact_entry (judged_by r sends stayed) by) (redact_entry r by) (entry_alike by) room.timeline in
      λ i. record { state = λ k. option_map (redact_by r by) (room.state k); timeline = timeline i }

  joined_alike : {V : Type 0} (o : Option (ClientRoom E K × V))
      → option_map (joined_redacted (judged_by r sends stayed)) o ≡ option_map (joined_redacted r) o
  joined_alike None = refl
  joined_alike (Some p) = λ i. Some (room_alike p.0 i, p.1)

  holding_alike : {V : Type 0} (had : Holding E K V) → holding_redacted (judged_by r sends stayed) had ≡ holding_redacted r had
  holding_alike had = λ i. record { joined = joined_alike had.joined i; invited = had.invited }

module _ {V D : Type 0} (w : Server V D) (h : Histories) (lawful : AreLawful h) (rests : RestsFold w (lists_of h))
    (user : List ℕ) (f : Selection) (folds : sieves.folds f ≡ true) where
  abbrev final : Lists
  final = lists_of h

  abbrev stories : RoomId → Story Event Key V D SyncToken
  stories room = story w final user f room

  are_stories : (room : RoomId) → IsStory tokens (stories room)
  are_stories room =
      valid_is_story tokens (sieve_of w.name f room) (by_type w.name f folds room) (filters.picks w.name f room) user (events_in final room)
      ((rooms_are_valid h.events lawful.orderly lawful.events).1 room) (rest_of w final user f room) (rests user f room)

  -- the client as the folding law has it
  abbrev folded : Client V → chains.Client RoomId Event Key V SyncToken
  folded c = record { token = Some c.token; base = c.token.b; front = c.front; rooms = λ room. c.rooms room }

  abbrev IsSound : chains.Client RoomId Event Key V SyncToken → Type 0
  IsSound c = Sound tokens are_tokens stories are_stories c

  record Kept (c : Client V) : Type 0 where
    pub sound : IsSound (folded c)
    pub account : (kind : List ℕ) → c.account kind ≡ account_at w final.accounts user f c.token.a kind

  abbrev KeptIf : Option (Client V) → Type 0
  KeptIf None = ⊤
  KeptIf (Some c) = Kept c

  agrees_from : (client : Option (Client V)) → KeptIf client → IfSome (option_map (redacted_client w user f) client) (Agrees w user f final)
  agrees_from None kept = tt
  agrees_from (Some c) kept = record {
    rooms = λ room.
        let g : Story Event Key V D SyncToken = stories room in
        let same = holding_alike g.room (λ front e. (story w no_lists user f room).room.sends front e)
        (λ low high. (story w no_lists user f room).room.stayed low high) (c.rooms room) in
        holds_picture w final user f c.token c.front room (holding_redacted (story w no_lists user f room).room (c.rooms room)) (by_type w.name f folds room)
        ((rooms_are_valid h.events lawful.orderly lawful.events).1 room).ascends
        (subst (HoldingAgrees tokens g c.token.b (Some c.token) c.front) (sym same) (kept.sound.agrees c.front (omega arith) room));
    account = kept.account;
  }

  -- a client after one turn
  turned : (c : chains.Client RoomId Event Key V SyncToken) (turn : Turn RoomId Event Key SyncToken) (after : Client V)
      → folded after ≡ after_turn tokens stories c turn → IsAnyTurn tokens c turn → IsSound c → IsSound (folded after)
  turned c turn after is taken sound = subst IsSound (sym is) (sound_turn tokens are_tokens stories are_stories c turn taken sound)

  module _ (here : Lists) (mark : here ≡ upto (fronts_of here) final) where
    abbrev fronts : SyncToken
    fronts = fronts_of here

    -- ---- a reply

    module _ (since : Option SyncToken) (extent : Extent) where
      abbrev ask : SyncAsk
      ask = record { filter = f; since = since; extent = extent }

      abbrev next : SyncToken
      next = next_token since fronts

      abbrev heroes : RoomId → Key → Bool
      heroes room k = heroes_in w here user ask room k

      abbrev reply : Reply V D
      reply = reply_of w here user ask

      abbrev turn : Turn RoomId Event Key SyncToken
      turn = Synced (sync_in f extent) heroes next

      -- the lists at the mark are those up to the reply's token
      upto_next : (s : Option SyncToken) → upto (next_token s fronts) final ≡ upto fronts final
      upto_next None = refl
      upto_next (Some t) = refl

      taken_in : IsNext tokens since next → IsBase tokens next.b since next → (rooms : RoomId → Holding Event Key V) (room : RoomId)
          → with_told (story w no_lists user f room) extent.after (position tokens since) next.e (reply.rooms room) (rooms room)
          ≡ with_told (stories room) extent.after (position tokens since) next.e
          (told tokens (stories room) (sync_in f extent) (heroes room) next.b since next) (rooms room)
      taken_in behind base rooms room =
          let same : reply.rooms room ≡ told tokens (stories room) (sync_in f extent) (heroes room) next.b since next =
          ap (λ l. told tokens (story w l user f room) (sync_in f extent) (heroes room) next.b since next) (mark ∙ sym (upto_next since))
          ∙ told_at_mark w final (events_stand h lawful) user f room (sync_in f extent) (heroes room) next.b since next behind base in
          same_told_read w user f room no_lists final extent.after (position tokens since) next.e (reply.rooms room) (rooms room)
          ∙ ap (λ t. with_told (stories room) extent.after (position tokens since) next.e t (rooms room)) same

      account_is : reply.account ≡ account_sent w final.accounts user f since fronts.a
      account_is =
          ap (λ (l : Lists). account_sent w l.accounts user f since fronts.a) mark
          ∙ account_at_mark w final.accounts (accounts_stand h lawful) user f since fronts.a

    begins : (extent : Extent) → Kept (after_reply w user f None 0 (nothing_held V) (λ kind. None) extent.after (reply None extent))
    begins extent =
        let rooms = taken_in None extent tt refl (nothing_held V) in
        record {
          sound = turned (new_client RoomId Event Key V SyncToken) (turn None extent)
              (after_reply w user f None 0 (nothing_held V) (λ kind. None) extent.after (reply None extent))
              (λ i. record { token = Some (next None extent); base = fronts.e; front = max 0 fronts.e; rooms = λ room. rooms room i }) tt
              (sound_new tokens are_tokens stories are_stories);
          account =
              λ kind. option_or-none (content_at kind (reply None extent).account) ∙ ap (content_at kind) (account_is None extent)
              ∙ account_new w user f kind final.accounts fronts.a;
        }

    goes_on : (extent : Extent) (c : Client V) → is_behind (Some c.token) fronts ≡ true → Kept c
        → Kept (after_reply w user f (Some c.token) c.front c.rooms c.account extent.after (reply (Some c.token) extent))
    goes_on extent c behind kept =
        let since : Option SyncToken = Some c.token in
        let rooms = taken_in since extent behind kept.sound.based c.rooms in
        record {
          sound = turned (folded c) (turn since extent) (after_reply w user f since c.front c.rooms c.account extent.after (reply since extent))
              (λ i. record { token = Some (next since extent); base = c.token.b; front = max c.front fronts.e; rooms = λ room. rooms room i }) behind kept.sound;
          account = λ kind.
              ap (λ ps. option_or (content_at kind ps) (c.account kind)) (account_is since extent)
              ∙ account_more w user f kind final.accounts (accounts_stand h lawful) c.token fronts.a (c.account kind)
              (before_parts c.token fronts behind).2 (kept.account kind);
        }

    replied : (extent : Extent) (client : Option (Client V)) (since : Option SyncToken) → is_behind since fronts ≡ true → KeptIf client
        → KeptIf (with_reply w user f client since extent.after (reply since extent))
    replied extent None None behind kept = begins extent
    replied extent (Some c) None behind kept = begins extent
    replied extent None (Some since) behind kept = tt
    replied extent (Some c) (Some since) behind kept =
        elim (cases_Bool (same_token c.token since)) [
          | inl same ↦ rw same (
              subst (λ s. is_behind (Some s) fronts ≡ true
              → Kept (after_reply w user f (Some s) c.front c.rooms c.account extent.after (reply (Some s) extent))) (same_is c.token since same)
              (λ b. goes_on extent c b kept) behind)
          | inr other ↦ rw other kept
        ]

    -- ---- a page

    abbrev gaps : RoomId → Opening Event → RoomId → Option (Opening Event)
    gaps room gap other = cond (same_room other room) (Some gap) None

    is_page : (room : RoomId) (gap : Opening Event) (c : Client V) → gap.gap.front ≤ fronts.e → IsOpen (Some gap) (c.rooms room) → (x : RoomId) (b : Bool)
        → same_room x room ≡ b → IsReached fronts.e (cond b (Some gap) None) × IsOpen (cond b (Some gap) None) (c.rooms x)
    is_page room gap c reached is x false e = (tt, tt)
    is_page room gap c reached is x true e = (reached, subst (λ y. IsOpen (Some gap) (c.rooms y)) (sym (same_room_is x room e)) is)

    page_same : (room : RoomId) (gap : Opening Event) (page : Page Event) (limit : ℕ) → page
        ≡ page_of (stories room).room (stories room).events limit fronts.e gap.gap
        → (had : Holding Event Key V) (x : RoomId) (b : Bool) → same_room x room ≡ b → cond b (page_into w user f x gap page had) had
        ≡ with_paged (stories x) limit fronts.e (cond b (Some gap) None) had
    page_same room gap page limit is had x false same = refl
    page_same room gap page limit is had x true same =
        let there : page ≡ page_of (stories x).room (stories x).events limit fronts.e gap.gap =
        subst (λ y. page ≡ page_of (stories y).room (stories y).events limit fronts.e gap.gap) (sym (same_room_is x room same)) is in
        let read = λ (p : ClientRoom Event Key × V). page_read w user f x no_lists final gap.gap gap.before gap.behind page p.0.state
        ∙ ap (λ pg. with_page (stories x).room gap.gap gap.before gap.behind pg p.0.state) there in
        λ i. record { joined = option_map (λ (p : ClientRoom Event Key × V). (read p i, p.1)) had.joined; invited = had.invited }

    pages : (asks : PageAsk) (c : Client V) → sieves.fits f asks.filter ≡ true → asks.from_cut ≤ fronts.e → Kept c → (o : Option (Opening Event))
        → opening_of w user f asks (c.rooms asks.room) ≡ o
        → Kept (with_gap w user f fronts.e asks.room c (page_asked w here user asks) o)
    pages asks c fits reached kept None none = kept
    pages asks c fits reached kept (Some gap) some =
        let room = asks.room in
        let page = page_asked w here user asks in
        let found = found_in (asked_gap asks) (c.rooms room).joined gap some in
        let at : Found (asked_gap asks) found.0.0.timeline gap = found.2 in
        let is_open : IsOpen (Some gap) (c.rooms room) = (found.0.0, found.0.1, found.1, at.0) in
        let in' : gap.gap.front ≤ fronts.e = subst (λ g. g.front ≤ fronts.e) (sym at.1) reached in
        let seen : IsSeenFrom tokens (stories room) (are_stories room) fronts.e gap =
        seen_from tokens (stories room) (are_stories room) fronts.e gap (c.rooms room) in' is_open (kept.sound.cut room) in
        let order : gap.gap.lower ≤ gap.gap.upper =
        gap_order tokens (stories room) (are_stories room) c.token.b c.front c.token gap (c.rooms room) (standing (stories room) c.token.e) is_open
        (kept.sound.agrees c.front (omega arith) room) in
        let cut_in : gap.gap.upper ≤ gap.gap.front = seen.cut_in in
        let is : page ≡ page_of (stories room).room (stories room).events asks.limit fronts.e gap.gap =
        ap (λ l. page_of (room_of (sieve_of w.name asks.filter room) user (events_in l room)) (events_in l room) asks.limit fronts.e (asked_gap asks)) mark
        ∙ sym (ap (page_of (room_of (sieve_of w.name asks.filter room) user (events_in (upto fronts final) room)) (events_in (upto fronts final) room)
        asks.limit fronts.e) at.1)
        ∙ page_at_mark w final (events_stand h lawful) user f asks.filter room fronts asks.limit gap.gap fits in' order (omega arith) in
        let rooms = λ (x : RoomId). page_same room gap page asks.limit is (c.rooms x) x (same_room x room) refl in
        record {
          sound = turned (folded c) (Paged asks.limit fronts.e (gaps room gap)) (after_page w user f fronts.e room c gap page)
              (λ i. record { token = Some c.token; base = c.token.b; front = max c.front fronts.e; rooms = λ x. rooms x i })
              (λ x. is_page room gap c in' is_open x (same_room x room) refl) kept.sound;
          account = kept.account;
        }

    shown : (asks : PageAsk) (client : Option (Client V)) → sieves.fits f asks.filter ≡ true → asks.from_cut ≤ fronts.e → KeptIf client
        → KeptIf (with_shown w user f fronts.e asks (page_asked w here user asks) client)
    shown asks None fits reached kept = tt
    shown asks (Some c) fits reached kept = pages asks c fits reached kept (opening_of w user f asks (c.rooms asks.room)) refl

    -- ---- an answer to the device

    syncs : (asks : SyncAsk) (client : Option (Client V)) → KeptIf client → (b : Bool) → is_behind asks.since fronts ≡ b
        → KeptIf (with_said w user f fronts.e (cond b (Replied asks (reply_of w here user asks)) PassedOver) client)
    syncs asks client kept false ahead = kept
    syncs asks client kept true behind =
        elim (cases_Bool (sieves.same_filter asks.filter f)) [
          | inl same ↦ rw same (
              subst (λ g. KeptIf
              (with_reply w user f client asks.since asks.extent.after
              (reply_of w here user (record { filter = g; since = asks.since; extent = asks.extent })))) (sym (filters_are asks.filter f same))
              (replied asks.extent client asks.since behind kept))
          | inr other ↦ rw other kept
        ]

    paged : (asks : PageAsk) (client : Option (Client V)) → KeptIf client → (b : Bool)
        → (sees_room w here user asks.room && (nat_le asks.from_cut fronts.e && is_behind asks.to fronts)) ≡ b
        → KeptIf (with_said w user f fronts.e (cond b (Showed asks (page_asked w here user asks)) PassedOver) client)
    paged asks client kept false refused = kept
    paged asks client kept true is =
        let parts = and_parts (sees_room w here user asks.room) (nat_le asks.from_cut fronts.e && is_behind asks.to fronts) is in
        let reached : asks.from_cut ≤ fronts.e =
        leb-true asks.from_cut fronts.e (and_parts (nat_le asks.from_cut fronts.e) (is_behind asks.to fronts) parts.1).0 in
        elim (cases_Bool (sieves.fits f asks.filter)) [
          | inl fits ↦ rw fits (shown asks client fits reached kept)
          | inr other ↦ rw other kept
        ]

    answered : (asks : Ask) (memory : Bool) (client : Option (Client V)) → KeptIf client
        → KeptIf (with_said w user f fronts.e (cond memory PassedOver (answer_to w here user asks)) client)
    answered asks true client kept = kept
    answered (Syncs asks) false client kept = syncs asks client kept (is_behind asks.since fronts) refl
    answered (Pages asks) false client kept =
        paged asks client kept (sees_room w here user asks.room && (nat_le asks.from_cut fronts.e && is_behind asks.to fronts)) refl
    answered Else false client kept = kept

-- ---- the exchanges, in any order

module _ {V D : Type 0} (w : Server V D) (h : Histories) (lawful : AreLawful h) (rests : RestsFold w (lists_of h))
    (device : ℕ) (f : Selection) (folds : sieves.folds f ≡ true) where
  abbrev IsKept : Option (Client V) → Type 0
  IsKept client = KeptIf w h lawful rests (w.user_of device) f folds client

  one_more : (a : ℕ × Ask) (mark : Mark) (client : Option (Client V)) → IsKept client → IsKept (after_exchange w device f (exchange_at w h a mark) client)
  one_more a mark client kept =
      let here : Lists = lists_at mark.stores h in
      elim (cases_Bool (nat_eq a.0 device)) [
        | inl mine ↦ rw mine (
            subst (λ d. IsKept (with_said w (w.user_of device) f (fronts_of here).e (cond mark.memory PassedOver (answer_to w here (w.user_of d) a.1)) client))
            (sym (eqb-true a.0 device mine))
            (answered w h lawful rests (w.user_of device) f folds here (mark_upto h mark.stores) a.1 mark.memory client kept))
        | inr other ↦ rw other kept
      ]

  any_agree : (client : Option (Client V)) (asked : List (ℕ × Ask)) (marks : List Mark) → IsKept client
      → IfSome (option_map (redacted_client w (w.user_of device) f) (chain w device f client (exchanges w h asked marks))) (Agrees w (w.user_of device) f (lists_of h))
  any_agree client [] marks kept = agrees_from w h lawful rests (w.user_of device) f folds client kept
  any_agree client (a ∷ asked) [] kept = agrees_from w h lawful rests (w.user_of device) f folds client kept
  any_agree client (a ∷ asked) (mark ∷ marks) kept =
      any_agree (after_exchange w device f (exchange_at w h a mark) client) asked marks (one_more a mark client kept)

pub clients_redact : {V D : Type 0} → ClientsRedact V D
clients_redact w h lawful rests asked marks device f folds = any_agree w h lawful rests device f folds None asked marks tt
