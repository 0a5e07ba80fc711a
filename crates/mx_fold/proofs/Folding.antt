-- Each exchange keeps the agreement of a device's chain.
use Rattle.std.proofs.Common.{◌≡◌, ℕ, ◌≤◌, Bool, true, false, cond, max, nat_eq, List, [], ◌∷◌, ◌++◌, Option, Some, None, IfSome, option_map, refl, sym, ap, ◌∙◌, subst, inl, inr, arith}
use Rattle.std.specs.Prelude.{⊤, ◌&&◌, nat_le}
use Rattle.std.specs.Option.{option_or}
use Rattle.std.proofs.lemmas.Bool.{cases_Bool, eqb-true}
use Rattle.mx_window.proofs.Lasts.{option_or-none}
use Rattle.mx_ids.specs.declared.room_id.RoomId.{RoomId}
use Rattle.mx_ids.specs.declared.sync_token.SyncToken.{SyncToken}
use Rattle.mx_event.specs.Lawful.{same_room}
use Rattle.mx_event.specs.Shown.{position_of}
use Rattle.mx_event.specs.declared.event.Event.{Event}
use Rattle.mx_folding.specs.Clients.{ClientRoom, with_page}
use Rattle.mx_folding.specs.Parts.{Page, page_of}
use Rattle.mx_folding.specs.Stories.{position, Story, told, standing, Holding, with_told, IsNext, IsBase}
use Rattle.mx_folding.specs.Chains as chains
use Rattle.mx_folding.specs.Chains.{new_client, Opening, around, Turn, Synced, Paged, with_paged, after_turn, after_turns, IsOpen, IsTurn, AreTurns}
use Rattle.mx_view.specs.Rooms.{Key, room_of}
use Rattle.mx_view.specs.Valid.{Rooms}
use Rattle.mx_view.specs.Tokens.{tokens, is_before, same_token, next_token}
use Rattle.mx_event.proofs.Lawfully.{same_is as same_room_is, rooms_are_valid}
use Rattle.mx_view.proofs.Orders.{before_parts, before_from, before_trans, before_self, are_tokens, same_is}
use Rattle.mx_view.proofs.Stories.{valid_folds}
use Rattle.mx_filter.specs.Sieves as sieves
use Rattle.mx_filter.specs.Passes as filters
use Rattle.mx_filter.specs.Sieves.{sieve_of}
use Rattle.mx_filter.specs.declared.parts.Selection.{Selection}
use Rattle.mx_filter.proofs.Sames.{filters_are, by_type}
use Rattle.mx_core.proofs.Covering.{front_rises}
use Rattle.mx_fold.specs.Lists.{Lists, Histories, Counts, AreFewer, AreLawful, no_lists, no_stores, upto, fronts_of, counts_of, lists_of, lists_at, events_in}
use Rattle.mx_fold.specs.Servers.{Server, RestsFold, rest_of, story}
use Rattle.mx_fold.specs.Accounts.{content_at, account_at, account_sent}
use Rattle.mx_fold.specs.Replies.{Extent, sync_in, SyncAsk, PageAsk, Ask, Syncs, Pages, Else, Replied, Showed, PassedOver, Reply, Said, to_at, asked_gap, is_behind, heroes_in, reply_of, page_asked, sees_room, answer_to}
use Rattle.mx_fold.specs.Clients.{Client, nothing_held, after_reply, with_reply, page_into, after_page, opening_of, with_gap, with_shown, with_said, chain, Agrees}
use Rattle.mx_fold.specs.Exchanges.{Mark, exchange_at, exchanges, MarksRise, ConnectionsAgree}
use Rattle.mx_fold.specs.Anywhere.{ReachesToken, Reaches, after_exchange, PagesReach, ClientsAgree}
use Rattle.mx_fold.proofs.Readers.{same_told_read, page_read}
use Rattle.mx_fold.proofs.Marked.{mark_upto, events_stand, accounts_stand, told_at_mark, page_at_mark}
use Rattle.mx_fold.proofs.Accounts.{account_new, account_more, account_at_mark}
use Rattle.mx_fold.proofs.Picturing.{holds_picture}
use Rattle.mx_fold.proofs.Turns.{turns_more, are_more, Found, found_in, rises_in, gap_within}

upto_next : (lists : Lists) (since : Option SyncToken) (fronts : SyncToken) → upto (next_token since fronts) lists ≡ upto fronts lists
upto_next lists None fronts = refl
upto_next lists (Some s) fronts = refl

pub next_before : (since : Option SyncToken) (fronts : SyncToken) → is_before (next_token since fronts) fronts ≡ true
next_before None fronts = before_self (next_token None fronts) fronts refl refl refl refl
next_before (Some s) fronts = before_self (next_token (Some s) fronts) fronts refl refl refl refl

next_behind : (since : Option SyncToken) (fronts : SyncToken) → is_behind since fronts ≡ true → IsNext tokens since (next_token since fronts)
next_behind None fronts h = tt
next_behind (Some t) fronts h = h

module _ {V D : Type 0} (w : Server V D) (h : Histories) (lawful : AreLawful h) (rests : RestsFold w (lists_of h))
    (user : List ℕ) (f : Selection) (folds : sieves.folds f ≡ true) where
  abbrev final : Lists
  final = lists_of h

  abbrev stories : RoomId → Story Event Key V D SyncToken
  stories room = story w final user f room

  abbrev rooms : Rooms RoomId V D SyncToken
  rooms = record { sieve = sieve_of w.name f; picked = filters.picks w.name f; events = events_in final; rest = rest_of w final user f }

  abbrev nobody : chains.Client RoomId Event Key V SyncToken
  nobody = new_client RoomId Event Key V SyncToken

  -- the client as the folding law has it
  abbrev folded : Client V → chains.Client RoomId Event Key V SyncToken
  folded c = record { token = Some c.token; base = c.token.b; front = c.front; rooms = λ room. c.rooms room }

  -- the client comes from turns
  record Kept (c : Client V) : Type 0 where
    pub turns : List (Turn RoomId Event Key SyncToken)
    pub taken : AreTurns tokens stories nobody turns
    pub comes : folded c ≡ after_turns tokens stories nobody turns
    pub based : c.token.b ≤ c.token.e
    pub account : (kind : List ℕ) → c.account kind ≡ account_at w final.accounts user f c.token.a kind

  abbrev KeptIf : Option (Client V) → Type 0
  KeptIf None = ⊤
  KeptIf (Some c) = Kept c

  -- what comes from turns agrees
  rooms_agree : (c : Client V) → Kept c → chains.Agrees tokens stories (folded c)
  rooms_agree c kept =
      subst (chains.Agrees tokens stories) (sym kept.comes)
      (valid_folds tokens are_tokens user rooms
      (record { by_type = by_type w.name f folds; valid = (rooms_are_valid h.events lawful.orderly lawful.events).1; rest = rests user f })
      kept.turns kept.taken)

  agrees_from : (client : Option (Client V)) → KeptIf client → IfSome client (Agrees w user f final)
  agrees_from None kept = tt
  agrees_from (Some c) kept = record {
    rooms =
        λ room. holds_picture w final user f c.token c.front room (c.rooms room) (by_type w.name f folds room)
        ((rooms_are_valid h.events lawful.orderly lawful.events).1 room).ascends (rooms_agree c kept room);
    account = kept.account;
  }

  module _ (here : Lists) (mark : here ≡ upto (fronts_of here) final) where
    abbrev fronts : SyncToken
    fronts = fronts_of here

    -- ---- a reply

    module _ (since : Option SyncToken) (extent : Extent) (behind : is_behind since (fronts_of here) ≡ true) where
      abbrev ask : SyncAsk
      ask = record { filter = f; since = since; extent = extent }

      abbrev next : SyncToken
      next = next_token since fronts

      abbrev heroes : RoomId → Key → Bool
      heroes room k = heroes_in w here user ask room k

      abbrev reply : Reply V D
      reply = reply_of w here user ask

      told_is : IsBase tokens next.b since next → (room : RoomId) → reply.rooms room
          ≡ told tokens (stories room) (sync_in f extent) (heroes room) next.b since next
      told_is base room =
          ap (λ l. told tokens (story w l user f room) (sync_in f extent) (heroes room) next.b since next) (mark ∙ sym (upto_next final since fronts))
          ∙ told_at_mark w final (events_stand h lawful) user f room (sync_in f extent) (heroes room) next.b since next (next_behind since fronts behind) base

      taken_in : IsBase tokens next.b since next → (rooms : RoomId → Holding Event Key V) (room : RoomId)
          → with_told (story w no_lists user f room) extent.after (position tokens since) next.e (reply.rooms room) (rooms room)
          ≡ with_told (stories room) extent.after (position tokens since) next.e
          (told tokens (stories room) (sync_in f extent) (heroes room) next.b since next) (rooms room)
      taken_in base rooms room =
          same_told_read w user f room no_lists final extent.after (position tokens since) next.e (reply.rooms room) (rooms room)
          ∙ ap (λ t. with_told (stories room) extent.after (position tokens since) next.e t (rooms room)) (told_is base room)

      account_is : reply.account ≡ account_sent w final.accounts user f since fronts.a
      account_is =
          ap (λ (l : Lists). account_sent w l.accounts user f since fronts.a) mark
          ∙ account_at_mark w final.accounts (accounts_stand h lawful) user f since fronts.a

    begins : (extent : Extent) → Kept (after_reply w user f None 0 (nothing_held V) (λ kind. None) extent.after (reply None extent refl))
    begins extent = record {
      turns = Synced (sync_in f extent) (heroes None extent refl) (next None extent refl) ∷ [];
      taken = (tt, tt);
      comes =
          let rooms = taken_in None extent refl refl (nothing_held V) in
          λ i. record { token = Some (next None extent refl); base = fronts.e; front = max 0 fronts.e; rooms = λ room. rooms room i };
      based = omega arith;
      account =
          λ kind. option_or-none (content_at kind (reply None extent refl).account) ∙ ap (content_at kind) (account_is None extent refl)
          ∙ account_new w user f kind final.accounts fronts.a;
    }

    goes_on : (extent : Extent) (c : Client V) (behind : is_behind (Some c.token) fronts ≡ true) → Kept c
        → Kept (after_reply w user f (Some c.token) c.front c.rooms c.account extent.after (reply (Some c.token) extent behind))
    goes_on extent c behind kept =
        let since : Option SyncToken = Some c.token in
        let ends : SyncToken = next (Some c.token) extent behind in
        let parts = before_parts c.token fronts behind in
        let rises : c.token.e ≤ fronts.e = parts.0 in
        let reaches : c.token.a ≤ fronts.a = parts.2 in
        let rooms = taken_in since extent behind kept.based c.rooms in
        let turn : Turn RoomId Event Key SyncToken = Synced (sync_in f extent) (heroes since extent behind) ends in
        let after : folded (after_reply w user f since c.front c.rooms c.account extent.after (reply since extent behind))
        ≡ after_turn tokens stories (folded c) turn =
        λ i. record { token = Some ends; base = c.token.b; front = max c.front fronts.e; rooms = λ room. rooms room i } in
        record {
          turns = kept.turns ++ turn ∷ [];
          taken = are_more tokens stories nobody kept.turns turn kept.taken (subst (λ d. IsTurn tokens d turn) kept.comes behind);
          comes = after ∙ ap (λ d. after_turn tokens stories d turn) kept.comes ∙ sym (turns_more tokens stories nobody kept.turns turn);
          based = let low' : c.token.b ≤ c.token.e = kept.based in omega (arith, low', rises);
          account = λ kind.
              ap (λ ps. option_or (content_at kind ps) (c.account kind)) (account_is since extent behind)
              ∙ account_more w user f kind final.accounts (accounts_stand h lawful) c.token fronts.a (c.account kind) reaches (kept.account kind);
        }

    replied : (extent : Extent) (client : Option (Client V)) (since : Option SyncToken) (behind : is_behind since fronts ≡ true) → KeptIf client
        → KeptIf (with_reply w user f client since extent.after (reply since extent behind))
    replied extent None None behind kept = begins extent
    replied extent (Some c) None behind kept = begins extent
    replied extent None (Some since) behind kept = tt
    replied extent (Some c) (Some since) behind kept =
        elim (cases_Bool (same_token c.token since)) [
          | inl same ↦ rw same (
              subst (λ s. (b : is_behind (Some s) fronts ≡ true)
              → Kept (after_reply w user f (Some s) c.front c.rooms c.account extent.after (reply (Some s) extent b))) (same_is c.token since same)
              (λ b. goes_on extent c b kept) behind)
          | inr other ↦ rw other kept
        ]

    -- ---- a page

    abbrev gaps : RoomId → Opening Event → RoomId → Option (Opening Event)
    gaps room gap other = cond (same_room other room) (Some gap) None

    opens : (room : RoomId) (gap : Opening Event) (c : Client V) → IsOpen (Some gap) (c.rooms room) → (x : RoomId) (b : Bool)
        → same_room x room ≡ b → IsOpen (cond b (Some gap) None) (c.rooms x)
    opens room gap c is x false e = tt
    opens room gap c is x true e = subst (λ y. IsOpen (Some gap) (c.rooms y)) (sym (same_room_is x room e)) is

    page_same : (room : RoomId) (gap : Opening Event) (page : Page Event) (limit e : ℕ) → page
        ≡ page_of (stories room).room (stories room).events limit e gap.gap
        → (had : Holding Event Key V) (x : RoomId) (b : Bool) → same_room x room ≡ b → cond b (page_into w user f x gap page had) had
        ≡ with_paged (stories x) limit e (cond b (Some gap) None) had
    page_same room gap page limit e is had x false same = refl
    page_same room gap page limit e is had x true same =
        let there : page ≡ page_of (stories x).room (stories x).events limit e gap.gap =
        subst (λ y. page ≡ page_of (stories y).room (stories y).events limit e gap.gap) (sym (same_room_is x room same)) is in
        let read = λ (p : ClientRoom Event Key × V). page_read w user f x no_lists final gap.gap gap.before gap.behind page p.0.state
        ∙ ap (λ pg. with_page (stories x).room gap.gap gap.before gap.behind pg p.0.state) there in
        λ i. record { joined = option_map (λ (p : ClientRoom Event Key × V). (read p i, p.1)) had.joined; invited = had.invited }

    pages : (asks : PageAsk) (c : Client V) → sieves.fits f asks.filter ≡ true → c.token.e ≤ fronts.e → Kept c → (o : Option (Opening Event))
        → opening_of w user f asks (c.rooms asks.room) ≡ o
        → Kept (with_gap w user f fronts.e asks.room c (page_asked w here user asks) o)
    pages asks c fits past kept None none = kept
    pages asks c fits past kept (Some gap) some =
        let room = asks.room in
        let page = page_asked w here user asks in
        let found = found_in (asked_gap asks) (c.rooms room).joined gap some in
        let p : ClientRoom Event Key × V = found.0 in
        let joined : (c.rooms room).joined ≡ Some p = found.1 in
        let at : Found (asked_gap asks) p.0.timeline gap = found.2 in
        let agrees = rooms_agree c kept in
        let rises = rises_in tokens (stories room) c.token.b c.token c.front (standing (stories room) c.token.e) (c.rooms room) p joined (agrees room) in
        let within = gap_within position_of c.token.e (asked_gap asks) p.0.timeline gap at rises in
        let cut_in : asks.from_cut ≤ c.token.e = within.0 in
        let order : to_at asks.to ≤ asks.from_at = within.1 in
        let upper_in : asks.from_at ≤ c.token.e = within.2 in
        let at_end : page ≡ page_of (stories room).room (stories room).events asks.limit fronts.e (asked_gap asks) =
        ap (λ l. page_of (room_of (sieve_of w.name asks.filter room) user (events_in l room)) (events_in l room) asks.limit fronts.e (asked_gap asks)) mark
        ∙ page_at_mark w final (events_stand h lawful) user f asks.filter room fronts asks.limit (asked_gap asks) fits (omega arith) order (omega arith) in
        let gap_page : page ≡ page_of (stories room).room (stories room).events asks.limit fronts.e gap.gap =
        at_end ∙ sym (ap (page_of (stories room).room (stories room).events asks.limit fronts.e) at.1) in
        let turn : Turn RoomId Event Key SyncToken = Paged asks.limit fronts.e (gaps room gap) in
        let is_turn : IsTurn tokens (folded c) turn = (past, λ x. opens room gap c (p.0, p.1, joined, at.0) x (same_room x room) refl) in
        let rooms = λ (x : RoomId). page_same room gap page asks.limit fronts.e gap_page (c.rooms x) x (same_room x room) refl in
        let after : folded (after_page w user f fronts.e room c gap page) ≡ after_turn tokens stories (folded c) turn =
        λ i. record { token = Some c.token; base = c.token.b; front = max c.front fronts.e; rooms = λ x. rooms x i } in
        record {
          turns = kept.turns ++ turn ∷ [];
          taken = are_more tokens stories nobody kept.turns turn kept.taken (subst (λ d. IsTurn tokens d turn) kept.comes is_turn);
          comes = after ∙ ap (λ d. after_turn tokens stories d turn) kept.comes ∙ sym (turns_more tokens stories nobody kept.turns turn);
          based = kept.based;
          account = kept.account;
        }

    shown : (asks : PageAsk) (client : Option (Client V)) → sieves.fits f asks.filter ≡ true → ReachesToken fronts.e client → KeptIf client
        → KeptIf (with_shown w user f fronts.e asks (page_asked w here user asks) client)
    shown asks None fits reaches kept = tt
    shown asks (Some c) fits reaches kept = pages asks c fits reaches kept (opening_of w user f asks (c.rooms asks.room)) refl

    -- ---- an answer to the device

    syncs : (asks : SyncAsk) (client : Option (Client V)) → KeptIf client → (b : Bool) → is_behind asks.since fronts ≡ b
        → KeptIf (with_said w user f fronts.e (cond b (Replied asks (reply_of w here user asks)) PassedOver) client)
    syncs asks client kept false ahead = kept
    syncs asks client kept true behind =
        elim (cases_Bool (sieves.same_filter asks.filter f)) [
          | inl same ↦ rw same (
              subst (λ g. KeptIf
              (with_reply w user f client asks.since asks.extent.after
              (reply_of w here user (record { filter = g; since = asks.since; extent = asks.extent })))) (sym (filters_are asks.filter f same))
              (replied asks.extent client asks.since behind kept))
          | inr other ↦ rw other kept
        ]

    paged : (asks : PageAsk) (client : Option (Client V)) → KeptIf client → (b : Bool)
        → Reaches {V = V} {D = D} f fronts.e (cond b (Showed asks (page_asked w here user asks)) PassedOver) client
        → KeptIf (with_said w user f fronts.e (cond b (Showed asks (page_asked w here user asks)) PassedOver) client)
    paged asks client kept false reaches = kept
    paged asks client kept true reaches =
        elim (cases_Bool (sieves.fits f asks.filter)) [
          | inl fits ↦ rw fits (shown asks client fits (reaches fits) kept)
          | inr other ↦ rw other kept
        ]

    answered : (asks : Ask) (memory : Bool) (client : Option (Client V)) → KeptIf client
        → Reaches {V = V} {D = D} f fronts.e (cond memory PassedOver (answer_to w here user asks)) client
        → KeptIf (with_said w user f fronts.e (cond memory PassedOver (answer_to w here user asks)) client)
    answered asks true client kept reaches = kept
    answered (Syncs asks) false client kept reaches = syncs asks client kept (is_behind asks.since fronts) refl
    answered (Pages asks) false client kept reaches =
        paged asks client kept (sees_room w here user asks.room && (nat_le asks.from_cut fronts.e && is_behind asks.to fronts)) reaches
    answered Else false client kept reaches = kept

-- ---- the exchanges, in any order

module _ {V D : Type 0} (w : Server V D) (h : Histories) (lawful : AreLawful h) (rests : RestsFold w (lists_of h))
    (device : ℕ) (f : Selection) (folds : sieves.folds f ≡ true) where
  abbrev IsKept : Option (Client V) → Type 0
  IsKept client = KeptIf w h lawful rests (w.user_of device) f folds client

  one_more : (a : ℕ × Ask) (mark : Mark) (client : Option (Client V)) → IsKept client
      → (nat_eq a.0 device ≡ true → Reaches f (fronts_of (lists_at mark.stores h)).e (exchange_at w h a mark).said client)
      → IsKept (cond (nat_eq a.0 device) (with_said w (w.user_of device) f (fronts_of (lists_at mark.stores h)).e (exchange_at w h a mark).said client) client)
  one_more a mark client kept reaches =
      let here : Lists = lists_at mark.stores h in
      elim (cases_Bool (nat_eq a.0 device)) [
        | inl mine ↦ rw mine (
            subst (λ d. Reaches f (fronts_of here).e (cond mark.memory PassedOver (answer_to w here (w.user_of d) a.1)) client
            → IsKept (with_said w (w.user_of device) f (fronts_of here).e (cond mark.memory PassedOver (answer_to w here (w.user_of d) a.1)) client))
            (sym (eqb-true a.0 device mine))
            (answered w h lawful rests (w.user_of device) f folds here (mark_upto h mark.stores) a.1 mark.memory client kept)
            (reaches mine))
        | inr other ↦ rw other kept
      ]

  any_agree : (client : Option (Client V)) (asked : List (ℕ × Ask)) (marks : List Mark) → IsKept client
      → PagesReach w device f client (exchanges w h asked marks)
      → IfSome (chain w device f client (exchanges w h asked marks)) (Agrees w (w.user_of device) f (lists_of h))
  any_agree client [] marks kept reach = agrees_from w h lawful rests (w.user_of device) f folds client kept
  any_agree client (a ∷ asked) [] kept reach = agrees_from w h lawful rests (w.user_of device) f folds client kept
  any_agree client (a ∷ asked) (mark ∷ marks) kept reach =
      any_agree (after_exchange w device f (exchange_at w h a mark) client) asked marks (one_more a mark client kept reach.0) reach.1

pub clients_agree : {V D : Type 0} → ClientsAgree V D
clients_agree w h lawful rests asked marks device f folds reach = any_agree w h lawful rests device f folds None asked marks tt reach

-- ---- the exchanges of one connection

pub rise_to : (h : Histories) (n m : Counts) → AreFewer n m → is_before (fronts_of (lists_at n h)) (fronts_of (lists_at m h)) ≡ true
rise_to h n m few =
    before_from (fronts_of (lists_at n h)) (fronts_of (lists_at m h)) (front_rises n.events m.events h.events few.events)
    (front_rises n.receipts m.receipts h.receipts few.receipts)
    (front_rises n.accounts m.accounts h.accounts few.accounts) (omega arith)

module _ {V D : Type 0} (w : Server V D) (user : List ℕ) (f : Selection) where
  -- the client's token lies at or before these high
  abbrev pub IsWithin : SyncToken → Option (Client V) → Type 0
  IsWithin high None = ⊤
  IsWithin high (Some c) = is_before c.token high ≡ true

  pub within_later : (low high : SyncToken) (client : Option (Client V)) → is_before low high ≡ true → IsWithin low client → IsWithin high client
  within_later low high None up is = tt
  within_later low high (Some c) up is = before_trans c.token low high is up

  pub reaches_within : (high : SyncToken) (said : Said V D) (client : Option (Client V)) → IsWithin high client → Reaches f high.e said client
  reaches_within high (Replied asks r) client is = tt
  reaches_within high (Showed asks page) None is = λ fits. tt
  reaches_within high (Showed asks page) (Some c) is = λ fits. (before_parts c.token high is).0
  reaches_within high PassedOver client is = tt

  module _ (high : SyncToken) where
    reply_within : (client : Option (Client V)) (since : Option SyncToken) (after : Bool) (r : Reply V D) → is_before r.next high ≡ true
        → IsWithin high client → IsWithin high (with_reply w user f client since after r)
    reply_within None None after r next is = next
    reply_within (Some c) None after r next is = next
    reply_within None (Some since) after r next is = tt
    reply_within (Some c) (Some since) after r next is = elim (cases_Bool (same_token c.token since)) [
      | inl same ↦ rw same next
      | inr other ↦ rw other is
    ]

    gap_stays_within : (front : ℕ) (room : RoomId) (c : Client V) (page : Page Event) (o : Option (Opening Event)) → is_before c.token high ≡ true
        → is_before (with_gap w user f front room c page o).token high ≡ true
    gap_stays_within front room c page None is = is
    gap_stays_within front room c page (Some o) is = is

    shown_within : (asks : PageAsk) (page : Page Event) (client : Option (Client V)) → IsWithin high client
        → IsWithin high (with_shown w user f high.e asks page client)
    shown_within asks page None is = tt
    shown_within asks page (Some c) is = gap_stays_within high.e asks.room c page (opening_of w user f asks (c.rooms asks.room)) is

  pub said_within : (here : Lists) (asker : List ℕ) (asks : Ask) (memory : Bool) (client : Option (Client V)) → IsWithin (fronts_of here) client
      → IsWithin (fronts_of here) (with_said w user f (fronts_of here).e (cond memory PassedOver (answer_to w here asker asks)) client)
  said_within here asker asks true client is = is
  said_within here asker (Syncs asks) false client is = elim (cases_Bool (is_behind asks.since (fronts_of here))) [
    | inl behind ↦ rw behind (elim (cases_Bool (sieves.same_filter asks.filter f)) [
      | inl same ↦ rw same (reply_within (fronts_of here) client asks.since asks.extent.after (reply_of w here asker asks) (next_before asks.since (fronts_of here)) is)
      | inr other ↦ rw other is
    ])
    | inr ahead ↦ rw ahead is
  ]
  said_within here asker (Pages asks) false client is =
      by (sees_room w here asker asks.room && (nat_le asks.from_cut (fronts_of here).e && is_behind asks.to (fronts_of here))) where
        by : (b : Bool) → IsWithin (fronts_of here) (with_said w user f (fronts_of here).e (cond b (Showed asks (page_asked w here asker asks)) PassedOver) client)
        by false = is
        by true = elim (cases_Bool (sieves.fits f asks.filter)) [
          | inl fits ↦ rw fits (shown_within (fronts_of here) asks (page_asked w here asker asks) client is)
          | inr other ↦ rw other is
        ]
  said_within here asker Else false client is = is

module _ {V D : Type 0} (w : Server V D) (h : Histories) (device : ℕ) (f : Selection) where
  abbrev fronts_at : Counts → SyncToken
  fronts_at n = fronts_of (lists_at n h)

  -- where each mark's lists begin the next one's, each page's lists reach the client's token
  all_reach : (low : Counts) (client : Option (Client V)) (asked : List (ℕ × Ask)) (marks : List Mark) → MarksRise low marks (counts_of h)
      → IsWithin w (w.user_of device) f (fronts_at low) client → PagesReach w device f client (exchanges w h asked marks)
  all_reach low client [] marks rise is = tt
  all_reach low client (a ∷ asked) [] rise is = tt
  all_reach low client (a ∷ asked) (mark ∷ marks) rise is =
      let later : IsWithin w (w.user_of device) f (fronts_at mark.stores) client =
      within_later w (w.user_of device) f (fronts_at low) (fronts_at mark.stores) client (rise_to h low mark.stores rise.0) is in (
        λ mine. reaches_within w (w.user_of device) f (fronts_at mark.stores) (exchange_at w h a mark).said client later,
        all_reach mark.stores (after_exchange w device f (exchange_at w h a mark) client) asked marks rise.1 (by (nat_eq a.0 device) later),
      ) where
        by : (b : Bool) → IsWithin w (w.user_of device) f (fronts_at mark.stores) client
            → IsWithin w (w.user_of device) f (fronts_at mark.stores)
            (cond b (with_said w (w.user_of device) f (fronts_at mark.stores).e (exchange_at w h a mark).said client) client)
        by true later = said_within w (w.user_of device) f (lists_at mark.stores h) (w.user_of a.0) a.1 mark.memory client later
        by false later = later

pub connections_agree : {V D : Type 0} → ConnectionsAgree V D
connections_agree w h lawful rests asked marks rise device f folds =
    clients_agree w h lawful rests asked marks device f folds (all_reach w h device f no_stores None asked marks rise tt)
