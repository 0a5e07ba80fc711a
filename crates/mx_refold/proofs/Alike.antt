-- A client that redacts after each answer comes to the same as one that redacts in the end.
use Rattle.std.proofs.Common.{◌≡◌, ℕ, Bool, true, false, cond, nat_eq, List, [], ◌∷◌, map, Option, Some, None, option_map, option_and_then, refl, sym, ap, ◌∙◌, subst}
use Rattle.std.proofs.lemmas.Option.{same_Some}
use Rattle.mx_ids.specs.declared.room_id.RoomId.{RoomId}
use Rattle.mx_ids.specs.declared.sync_token.SyncToken.{SyncToken}
use Rattle.mx_event.specs.Lawful.{same_room}
use Rattle.mx_event.specs.declared.event.Event.{Event}
use Rattle.mx_event.proofs.Lawfully.{same_is as same_room_is}
use Rattle.mx_folding.specs.Rooms.{Room, IsRoom}
use Rattle.mx_folding.specs.Redactions.{redact_by}
use Rattle.mx_folding.specs.Parts.{Page, Gap}
use Rattle.mx_folding.specs.Clients.{Entry, Held, Open, ClientRoom, held, redact_entry, with_page}
use Rattle.mx_folding.specs.Stories.{position, Rest, Story, Holding}
use Rattle.mx_folding.specs.Chains.{Opening, around}
use Rattle.mx_view.specs.Rooms.{Key}
use Rattle.mx_view.specs.Tokens.{tokens, same_token}
use Rattle.mx_view.proofs.Stories.{valid_is_story}
use Rattle.mx_filter.specs.Sieves as sieves
use Rattle.mx_filter.specs.Sieves.{sieve_of}
use Rattle.mx_filter.specs.declared.parts.Selection.{Selection}
use Rattle.mx_filter.proofs.Sames.{by_type}
use Rattle.mx_fold.specs.Lists.{no_lists, fronts_of}
use Rattle.mx_fold.specs.Servers.{Server, story}
use Rattle.mx_fold.specs.Replies.{PageAsk, Reply, Said, Replied, Showed, PassedOver, asked_gap}
use Rattle.mx_fold.specs.Clients.{Client, same_gap, find_gap, after_reply, with_reply, page_into, after_page, with_gap, with_shown, with_said, Exchange, chain}
use Rattle.mx_fold.specs.Anywhere.{after_exchange}
use Rattle.mx_fold.proofs.Turns.{found_in}
use Rattle.mx_refold.specs.Redacted.{room_redacted, joined_redacted, holding_redacted}
use Rattle.mx_refold.specs.Clients.{redacted_client, redacting_chain, RedactsAlike}
use Rattle.mx_refold.proofs.Redacted.{redacts_page}
use Rattle.mx_refold.proofs.Twice.{holding_twice, told_twice}

-- ---- where a gap stands in a timeline whose copies are redacted

module _ {E K : Type 0} (r : Room E K) (by : List E) where
  abbrev opening_redacted : Opening E → Opening E
  opening_redacted o = record { before = map (redact_entry r by) o.before; gap = o.gap; behind = map (redact_entry r by) o.behind }

  behind_redacted : (entry : Entry E) (o : Option (Opening E))
      → option_map (λ (g : Opening E). record g { before = redact_entry r by entry ∷ g.before }) (option_map opening_redacted o)
      ≡ option_map opening_redacted (option_map (λ (g : Opening E). record g { before = entry ∷ g.before }) o)
  behind_redacted entry None = refl
  behind_redacted entry (Some o) = refl

  find_redacted : (gap : Gap) (es : List (Entry E)) → find_gap gap (map (redact_entry r by) es) ≡ option_map opening_redacted (find_gap gap es)
  find_redacted gap [] = refl
  find_redacted gap (Held c ∷ es) =
      ap (option_map (λ (g : Opening E). record g { before = redact_entry r by (Held c) ∷ g.before })) (find_redacted gap es)
      ∙ behind_redacted (Held c) (find_gap gap es)
  find_redacted gap (Open found ∷ es) = by_gap (same_gap found gap) (find_redacted gap es) where
    by_gap : (b : Bool) → find_gap gap (map (redact_entry r by) es) ≡ option_map opening_redacted (find_gap gap es)
        → cond b (Some (record { before = []; gap = found; behind = map (redact_entry r by) es }))
        (option_map (λ (g : Opening E). record g { before = Open found ∷ g.before }) (find_gap gap (map (redact_entry r by) es)))
        ≡ option_map opening_redacted (cond b (Some (record { before = []; gap = found; behind = es }))
        (option_map (λ (g : Opening E). record g { before = Open found ∷ g.before }) (find_gap gap es)))
    by_gap true rest = refl
    by_gap false rest =
        ap (option_map (λ (g : Opening E). record g { before = Open found ∷ g.before })) rest ∙ behind_redacted (Open found) (find_gap gap es)

module _ {V D : Type 0} (w : Server V D) (user : List ℕ) (f : Selection) (folds : sieves.folds f ≡ true) where
  abbrev room_for : RoomId → Story Event Key V D SyncToken
  room_for room = story w no_lists user f room

  abbrev nothing : Rest ℕ ℕ SyncToken
  nothing = record { view = λ t. 0; delta = λ i j. 0; changed = λ v d. v; differs = λ i j. false }

  is_room : (room : RoomId) → IsRoom (room_for room).room (room_for room).events
  is_room room =
      (valid_is_story tokens (sieve_of w.name f room) (by_type w.name f folds room) true user [] (record { ascends = tt; valid = refl }) nothing
      (record { folds = λ i j next here there. refl; still = λ i j next here there same. refl })).room

  abbrev after : Client V → Client V
  after c = redacted_client w user f c

  abbrev after_if : Option (Client V) → Option (Client V)
  after_if client = option_map after client

  twice : (c : Client V) → after (after c) ≡ after c
  twice c = λ i. record { token = c.token; front = c.front; rooms = λ room. holding_twice (room_for room) (is_room room) (c.rooms room) i; account = c.account }

  twice_if : (client : Option (Client V)) → after_if (after_if client) ≡ after_if client
  twice_if None = refl
  twice_if (Some c) = ap Some (twice c)

  -- ---- a reply

  reply_alike : (since : Option SyncToken) (c : Client V) (state_after : Bool) (reply : Reply V D)
      → after (after_reply w user f since c.front (after c).rooms c.account state_after reply) ≡ after (after_reply w user f since c.front c.rooms c.account state_after reply)
  reply_alike since c state_after reply = λ i. record {
    token = reply.next;
    front = (after_reply w user f since c.front c.rooms c.account state_after reply).front;
    rooms = λ room. told_twice (room_for room) (is_room room) state_after (position tokens since) reply.next.e (reply.rooms room) (c.rooms room) i;
    account = (after_reply w user f since c.front c.rooms c.account state_after reply).account;
  }

  replied : (since : Option SyncToken) (state_after : Bool) (reply : Reply V D) (client : Option (Client V))
      → after_if (with_reply w user f (after_if client) since state_after reply) ≡ after_if (with_reply w user f client since state_after reply)
  replied None state_after reply None = refl
  replied None state_after reply (Some c) = refl
  replied (Some since) state_after reply None = refl
  replied (Some since) state_after reply (Some c) = by (same_token c.token since) where
    by : (b : Bool)
        → after_if (cond b (Some (after_reply w user f (Some since) c.front (after c).rooms c.account state_after reply)) (Some (after c)))
        ≡ after_if (cond b (Some (after_reply w user f (Some since) c.front c.rooms c.account state_after reply)) (Some c))
    by true = ap Some (reply_alike (Some since) c state_after reply)
    by false = ap Some (twice c)

  -- ---- a page

  module _ (front : ℕ) (ask : PageAsk) (page : Page Event) (c : Client V) where
    abbrev r : Room Event Key
    r = (room_for ask.room).room

    abbrev moved : ClientRoom Event Key → Opening Event → Opening Event
    moved room o = opening_redacted r (held room.timeline) o

    -- the room of the page
    page_there : (p : ClientRoom Event Key × V) (o : Opening Event) → (c.rooms ask.room).joined ≡ Some p → p.0.timeline ≡ around o
        → holding_redacted r (page_into w user f ask.room (moved p.0 o) page (holding_redacted r (c.rooms ask.room)))
        ≡ holding_redacted r (page_into w user f ask.room o page (c.rooms ask.room))
    page_there p o joined is =
        let had : Holding Event Key V = c.rooms ask.room in
        let by : List Event = held p.0.timeline in
        let same : room_redacted r (with_page r o.gap (moved p.0 o).before (moved p.0 o).behind page (λ k. option_map (redact_by r by) (p.0.state k)))
        ≡ room_redacted r (with_page r o.gap o.before o.behind page p.0.state) =
        redacts_page r (room_for ask.room).events (is_room ask.room) o.gap o.before o.behind page p.0.state by (ap held is) in
        let new : Option (ClientRoom Event Key × V) → Option (ClientRoom Event Key × V) =
        λ had. option_map (joined_redacted r) (option_map (λ (q : ClientRoom Event Key × V).
        (with_page r o.gap (moved p.0 o).before (moved p.0 o).behind page q.0.state, q.1)) (option_map (joined_redacted r) had)) in
        let old : Option (ClientRoom Event Key × V) → Option (ClientRoom Event Key × V) =
        λ had. option_map (joined_redacted r) (option_map (λ (q : ClientRoom Event Key × V). (with_page r o.gap o.before o.behind page q.0.state, q.1)) had) in
        let there : new had.joined ≡ old had.joined =
        ap new joined ∙ (λ i. Some (same i, p.1)) ∙ sym (ap old joined) in
        λ i. record { joined = there i; invited = had.invited }

    page_at : (p : ClientRoom Event Key × V) (o : Opening Event) → (c.rooms ask.room).joined ≡ Some p → p.0.timeline ≡ around o
        → (x : RoomId) (b : Bool) → same_room x ask.room ≡ b
        → holding_redacted (room_for x).room (cond b (page_into w user f x (moved p.0 o) page ((after c).rooms x)) ((after c).rooms x))
        ≡ holding_redacted (room_for x).room (cond b (page_into w user f x o page (c.rooms x)) (c.rooms x))
    page_at p o joined is x false other = holding_twice (room_for x) (is_room x) (c.rooms x)
    page_at p o joined is x true same =
        subst (λ y. holding_redacted (room_for y).room (page_into w user f y (moved p.0 o) page ((after c).rooms y))
        ≡ holding_redacted (room_for y).room (page_into w user f y o page (c.rooms y))) (sym (same_room_is x ask.room same)) (page_there p o joined is)

    page_alike : (p : ClientRoom Event Key × V) (o : Opening Event) → (c.rooms ask.room).joined ≡ Some p → p.0.timeline ≡ around o
        → after (after_page w user f front ask.room (after c) (moved p.0 o) page) ≡ after (after_page w user f front ask.room c o page)
    page_alike p o joined is = λ i. record {
      token = c.token;
      front = (after_page w user f front ask.room c o page).front;
      rooms = λ x. page_at p o joined is x (same_room x ask.room) refl i;
      account = c.account;
    }

    by_gap : (p : ClientRoom Event Key × V) → (c.rooms ask.room).joined ≡ Some p → (o : Option (Opening Event))
        → ((g : Opening Event) → o ≡ Some g → p.0.timeline ≡ around g)
        → after (with_gap w user f front ask.room (after c) page (option_map (moved p.0) o)) ≡ after (with_gap w user f front ask.room c page o)
    by_gap p joined None is = twice c
    by_gap p joined (Some o) is = page_alike p o joined (is o refl)

    by_joined : (o : Option (ClientRoom Event Key × V)) → (c.rooms ask.room).joined ≡ o
        → after (with_gap w user f front ask.room (after c) page
        (option_and_then (λ (p : ClientRoom Event Key × V). find_gap (asked_gap ask) p.0.timeline) (option_map (joined_redacted r) o)))
        ≡ after (with_gap w user f front ask.room c page (option_and_then (λ (p : ClientRoom Event Key × V). find_gap (asked_gap ask) p.0.timeline) o))
    by_joined None joined = twice c
    by_joined (Some p) joined =
        ap (λ o. after (with_gap w user f front ask.room (after c) page o)) (find_redacted r (held p.0.timeline) (asked_gap ask) p.0.timeline)
        ∙ by_gap p joined (find_gap (asked_gap ask) p.0.timeline) (λ g is. found g is) where
          found : (g : Opening Event) → find_gap (asked_gap ask) p.0.timeline ≡ Some g → p.0.timeline ≡ around g
          found g is =
              let at = found_in (asked_gap ask) (Some p) g is in
              ap (λ (q : ClientRoom Event Key × V). q.0.timeline) (same_Some p at.0 at.1) ∙ at.2.0

  shown : (front : ℕ) (ask : PageAsk) (page : Page Event) (client : Option (Client V))
      → after_if (with_shown w user f front ask page (after_if client)) ≡ after_if (with_shown w user f front ask page client)
  shown front ask page None = refl
  shown front ask page (Some c) = ap Some (by_joined front ask page c (c.rooms ask.room).joined refl)

  -- ---- an answer

  said_alike : (front : ℕ) (said : Said V D) (client : Option (Client V))
      → after_if (with_said w user f front said (after_if client)) ≡ after_if (with_said w user f front said client)
  said_alike front (Replied ask reply) client = by (sieves.same_filter ask.filter f) where
    by : (b : Bool) → after_if (cond b (with_reply w user f (after_if client) ask.since ask.extent.after reply) (after_if client))
        ≡ after_if (cond b (with_reply w user f client ask.since ask.extent.after reply) client)
    by true = replied ask.since ask.extent.after reply client
    by false = twice_if client
  said_alike front (Showed ask page) client = by (sieves.fits f ask.filter) where
    by : (b : Bool) → after_if (cond b (with_shown w user f front ask page (after_if client)) (after_if client))
        ≡ after_if (cond b (with_shown w user f front ask page client) client)
    by true = shown front ask page client
    by false = twice_if client
  said_alike front PassedOver client = twice_if client

module _ {V D : Type 0} (w : Server V D) (device : ℕ) (f : Selection) (folds : sieves.folds f ≡ true) where
  abbrev redacted_if : Option (Client V) → Option (Client V)
  redacted_if client = option_map (redacted_client w (w.user_of device) f) client

  one_alike : (x : Exchange V D) (client : Option (Client V))
      → redacted_if (after_exchange w device f x (redacted_if client)) ≡ redacted_if (after_exchange w device f x client)
  one_alike x client = by (nat_eq x.device device) where
    by : (b : Bool) → redacted_if (cond b (with_said w (w.user_of device) f (fronts_of x.lists).e x.said (redacted_if client)) (redacted_if client))
        ≡ redacted_if (cond b (with_said w (w.user_of device) f (fronts_of x.lists).e x.said client) client)
    by true = said_alike w (w.user_of device) f folds (fronts_of x.lists).e x.said client
    by false = twice_if w (w.user_of device) f folds client

  all_alike : (xs : List (Exchange V D)) (client : Option (Client V))
      → redacting_chain w device f (redacted_if client) xs ≡ redacted_if (chain w device f client xs)
  all_alike [] client = refl
  all_alike (x ∷ xs) client =
      ap (λ c. redacting_chain w device f c xs) (one_alike x client) ∙ all_alike xs (after_exchange w device f x client)

pub redacts_alike : {V D : Type 0} → RedactsAlike V D
redacts_alike w device f folds xs = all_alike w device f folds xs None
