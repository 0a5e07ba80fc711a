-- The chain over the answers to a device is that over mx_fold's exchanges, and what it is sent is what these send.
use Rattle.std.proofs.Common.{◌≡◌, if◌then◌else◌, ℕ, List, [], ◌∷◌, Bool, true, false, cond, Option, Some, None, take, drop, refl, sym, ap, ◌∙◌, subst, inl, inr, arith, take-append-drop}
use Rattle.std.specs.Prelude.{IfSome}
use Rattle.std.specs.Option.{option_map}
use Rattle.std.proofs.lemmas.Bool.{cases_Bool, and_parts}
use Rattle.std.proofs.lemmas.Slice.Eq.{bytes_eq-Decides}
use Rattle.std.specs.Prelude.{nat_eq, ◌&&◌}
use Rattle.std.specs.Str.{bytes_eq}
use Rattle.mx_core.specs.History.{Begins}
use Rattle.mx_core.specs.declared.history.Stored.{Stored}
use Rattle.mx_core.proofs.Orders.{begins_orderly}
use Rattle.mx_core.proofs.Owns.{keeps_law_front}
use Rattle.mx_event.specs.Lawful.{lawful_store}
use Rattle.mx_event.specs.Shown.{position_of}
use Rattle.mx_event.specs.declared.event.Event.{Event}
use Rattle.mx_event.proofs.Lawfully.{rooms_are_valid}
use Rattle.mx_filter.specs.declared.parts.Selection.{Selection}
use Rattle.mx_filter.specs.Sieves as sieves
use Rattle.mx_folding.specs.Parts.{Page, Part}
use Rattle.mx_folding.specs.Stories.{Told}
use Rattle.mx_ids.specs.Memory.{refused_memory}
use Rattle.mx_ids.specs.User.{server_of}
use Rattle.mx_ids.specs.declared.sync_token.SyncToken.{SyncToken}
use Rattle.mx_fold.specs.Clients.{Agrees, Client, after_reply, chain, nothing_held, with_reply, with_said}
use Rattle.mx_fold.specs.Exchanges.{AreSent, Mark, MarksRise, exchange_at, exchanges}
use Rattle.mx_fold.specs.Lists as fold
use Rattle.mx_fold.specs.Lists.{AreLawful, Histories, Lists, fronts_of, lists_of, no_stores}
use Rattle.mx_fold.specs.Replies.{Ask, Else, PageAsk, PassedOver, Pages, Replied, Reply, Said, Showed, Syncs, answer_to}
use Rattle.mx_fold.specs.Sent.{AreSeen, SeesSaid, sent_of}
use Rattle.mx_fold.specs.Servers.{Server}
use Rattle.mx_fold.proofs.Folding.{connections_agree}
use Rattle.mx_fold.proofs.Seen.{connections_see}
use Rattle.mx_rest.specs.declared.room_view.RoomDelta.{RoomDelta}
use Rattle.mx_rest.specs.declared.room_view.RoomView.{RoomView}
use Rattle.mx_rest.proofs.Sections.{section_law}
use Rattle.mx_sync.specs.Replies.{server_for}
use Rattle.mx_view.specs.Tokens.{same_token}
use Rattle.mx_window.specs.Windows.{stand_from}
use Rattle.mx_ask.specs.declared.ask.Ask as what
use Rattle.mx_ask.specs.declared.ask.Ask.TheVariants as ask
use Rattle.mx_ask.specs.declared.ask.Request.{Request}
use Rattle.mx_ask.specs.declared.ask.Who.{Who}
use Rattle.mx_ask.specs.declared.said.Said.TheVariants as said
use Rattle.mx_engine.specs.Acts.Acts.{asked}
use Rattle.mx_engine.specs.Answers.{Stops, act_said, answer_to as answered, counts}
use Rattle.mx_engine.specs.Aims.Asked.{Site, room_of}
use Rattle.mx_engine.specs.Exchanges.{AreExchanges, first_of}
use Rattle.mx_engine.specs.declared.answered.Answered.{Answered}
use Rattle.mx_engine.specs.declared.answered.Counts.{Counts}
use Rattle.mx_engine.specs.declared.answered.Mark as marks
use Rattle.mx_fold.specs.Anywhere.{Follows, PagesFollow, PagesReach, Reaches, answers_token, is_taken}
use Rattle.mx_chains.specs.Chains.{AnswersAgree, AnswersSee, AreAnswers, ClientsAgree, ClientsRedact, ClientsSee, FollowersAgree, mark_of, marks_of}
use Rattle.mx_fold.proofs.Folding as law
use Rattle.mx_fold.proofs.Following.{followers_reach}
use Rattle.mx_refold.specs.Clients.{redacted_client}
use Rattle.mx_refold.proofs.Exchanges as redacting
use Rattle.mx_chains.specs.Heard.{asked_of, exchange_of, exchanges_of, heard, is_of_device}
use Rattle.mx_chains.proofs.Seeing.{pages_see}
use Rattle.mx_chains.proofs.Hearing.{Alike, IsTaken, page_alike, sync_alike}

abbrev Taken : Type 0
Taken = Said RoomView RoomDelta

-- ---- what is alike has the same effect

module _ (w : Server RoomView RoomDelta) (user : List ℕ) (f : Selection) (front : ℕ) where
  module _ (r q : Reply RoomView RoomDelta) (h : IsTaken r q) where
    same_reply : (client : Option (Client RoomView)) (since : Option SyncToken) (after : Bool) → with_reply w user f client since after r ≡ with_reply w user f client since after q
    same_reply client None after = λ i.
        Some (after_reply w user f None 0 (nothing_held RoomView) (λ kind. None) after (record { next = h.next i; rooms = λ room. h.rooms room i; left = r.left; account = h.account i }))
    same_reply None (Some since) after = refl
    same_reply (Some c) (Some since) after = λ i.
        cond (same_token c.token since)
        (Some (after_reply w user f (Some since) c.front c.rooms c.account after (record { next = h.next i; rooms = λ room. h.rooms room i; left = r.left; account = h.account i })))
        (Some c)

  same_effect : (x y : Taken) → Alike x y → (client : Option (Client RoomView)) → with_said w user f front x client ≡ with_said w user f front y client
  same_effect (Replied a r) (Replied b q) h client =
      (λ i. with_said w user f front (Replied (h.0 i) r) client)
      ∙ ap (λ next. cond (sieves.same_filter b.filter f) next client) (same_reply r q h.1 client b.since b.extent.after)
  same_effect (Replied a r) (Showed b p) h client = absurd h
  same_effect (Replied a r) PassedOver h client = absurd h
  same_effect (Showed a p) (Replied b q) h client = absurd h
  same_effect (Showed a p) (Showed b q) h client = λ i. with_said w user f front (Showed (h.0 i) (h.1 i)) client
  same_effect (Showed a p) PassedOver h client = absurd h
  same_effect PassedOver (Replied b q) h client = absurd h
  same_effect PassedOver (Showed b q) h client = absurd h
  same_effect PassedOver PassedOver h client = refl

same_follows : (f : Selection) (on : ℕ) (last : Option ℕ) (x y : Taken) → Alike x y → (client : Option (Client RoomView)) → Follows f on last x client → Follows f on last y client
same_follows f on last (Replied a r) (Replied b q) h client follows = tt
same_follows f on last (Replied a r) (Showed b p) h client follows = absurd h
same_follows f on last (Replied a r) PassedOver h client follows = absurd h
same_follows f on last (Showed a p) (Replied b q) h client follows = absurd h
same_follows f on last (Showed a p) (Showed b q) h None follows = tt
same_follows f on last (Showed a p) (Showed b q) h (Some c) follows = λ fits. follows (ap (λ (s : PageAsk). sieves.fits f s.filter) h.0 ∙ fits)
same_follows f on last (Showed a p) PassedOver h client follows = absurd h
same_follows f on last PassedOver (Replied b q) h client follows = absurd h
same_follows f on last PassedOver (Showed b q) h client follows = absurd h
same_follows f on last PassedOver PassedOver h client follows = tt

same_taken : (f : Selection) (x y : Taken) → Alike x y → (client : Option (Client RoomView)) → is_taken f x client ≡ is_taken f y client
same_taken f (Replied a r) (Replied b q) h client = λ i. sieves.same_filter (h.0 i).filter f && answers_token client (h.0 i).since
same_taken f (Replied a r) (Showed b p) h client = absurd h
same_taken f (Replied a r) PassedOver h client = absurd h
same_taken f (Showed a p) (Replied b q) h client = absurd h
same_taken f (Showed a p) (Showed b q) h client = refl
same_taken f (Showed a p) PassedOver h client = absurd h
same_taken f PassedOver (Replied b q) h client = absurd h
same_taken f PassedOver (Showed b q) h client = absurd h
same_taken f PassedOver PassedOver h client = refl

same_reach : (f : Selection) (front : ℕ) (x y : Taken) → Alike x y → (client : Option (Client RoomView)) → Reaches f front x client → Reaches f front y client
same_reach f front (Replied a r) (Replied b q) h client reach = tt
same_reach f front (Replied a r) (Showed b p) h client reach = absurd h
same_reach f front (Replied a r) PassedOver h client reach = absurd h
same_reach f front (Showed a p) (Replied b q) h client reach = absurd h
same_reach f front (Showed a p) (Showed b q) h client reach = λ fits. reach (ap (λ (s : PageAsk). sieves.fits f s.filter) h.0 ∙ fits)
same_reach f front (Showed a p) PassedOver h client reach = absurd h
same_reach f front PassedOver (Replied b q) h client reach = absurd h
same_reach f front PassedOver (Showed b q) h client reach = absurd h
same_reach f front PassedOver PassedOver h client reach = tt

module _ (w : Server RoomView RoomDelta) (l : Lists) (user : List ℕ) where
  sees_same : (x y : Taken) → Alike x y → SeesSaid w l user y → SeesSaid w l user x
  sees_same (Replied a r) (Replied b q) h seen = λ room. (
    subst (λ (t : Told Event RoomView RoomDelta). AreSeen w l user room (sent_of t)) (sym (h.1.rooms room)) (seen room).0,
    elim (h.1.left room) [
      | inl none ↦ subst (λ (p : Part Event). AreSeen w l user room p.sent) (sym none) tt
      | inr same ↦ subst (λ (p : Part Event). AreSeen w l user room p.sent) (sym same) (seen room).1
    ],
  )
  sees_same (Replied a r) (Showed b p) h seen = absurd h
  sees_same (Replied a r) PassedOver h seen = absurd h
  sees_same (Showed a p) (Replied b q) h seen = absurd h
  sees_same (Showed a p) (Showed b q) h seen =
      subst (λ (s : Page Event). AreSeen w l user a.room s.sent) (sym h.1) (subst (λ (s : PageAsk). AreSeen w l user s.room q.sent) (sym h.0) seen)
  sees_same (Showed a p) PassedOver h seen = absurd h
  sees_same PassedOver (Replied b q) h seen = absurd h
  sees_same PassedOver (Showed b q) h seen = absurd h
  sees_same PassedOver PassedOver h seen = tt

-- ---- one answer

nothing_heard : (a : Ask) → heard a (said.NoMemory refused_memory) ≡ PassedOver
nothing_heard (Syncs a) = refl
nothing_heard (Pages a) = refl
nothing_heard Else = refl

module _ (site : Site) (h : Histories) (placed : stand_from position_of 1 (lists_of h).events ≡ true) (m : marks.Mark) (now : ℕ) (who : Who) where
  abbrev IsAlike : what.Ask → Type 0
  IsAlike x = Alike (heard (asked_of site (lists_of h) who x) (act_said h m (asked site now who x))) (answer_to (server_for who.user) (lists_of h) who.user (asked_of site (lists_of h) who x))

  act_alike : (x : what.Ask) → IsAlike x
  act_alike ask.WhoAmI = tt
  act_alike (ask.CreateRoom body) = tt
  act_alike ask.JoinedRooms = tt
  act_alike (ask.Send room kind txn content) = tt
  act_alike (ask.PutState room kind key content) = tt
  act_alike (ask.GetState room kind key) = tt
  act_alike (ask.AllState room) = tt
  act_alike (ask.Members room membership not_membership) = tt
  act_alike (ask.OneEvent room event) = tt
  act_alike (ask.Redact room event txn reason) = tt
  act_alike (ask.Join room reason) = tt
  act_alike (ask.Leave room reason) = tt
  act_alike (ask.Invite room user reason) = tt
  act_alike (ask.Kick room user reason) = tt
  act_alike (ask.Ban room user reason) = tt
  act_alike (ask.Unban room user reason) = tt
  act_alike (ask.Messages room backward from to limit filter) = page_alike (lists_of h) who.user (room_of site room) backward from to limit filter
  act_alike (ask.Sync since filter full after timeout) = sync_alike (lists_of h) who.user placed since full after filter
  act_alike (ask.PutFilter filter) = tt
  act_alike (ask.GetFilter id) = tt
  act_alike (ask.PutAccount room kind content) = tt
  act_alike (ask.GetAccount room kind) = tt
  act_alike (ask.Tags room) = tt
  act_alike (ask.PutTag room tag body) = tt
  act_alike (ask.DeleteTag room tag) = tt
  act_alike (ask.Receipt room kind event) = tt
  act_alike (ask.ReadMarkers room fully read private) = tt
  act_alike (ask.PushRules inner) = tt
  act_alike (ask.GetRule kind id) = tt
  act_alike (ask.PutRule kind id body before after) = tt
  act_alike (ask.DeleteRule kind id) = tt
  act_alike (ask.GetEnabled kind id) = tt
  act_alike (ask.PutEnabled kind id on) = tt
  act_alike (ask.GetActions kind id) = tt
  act_alike (ask.PutActions kind id body) = tt

-- the first stores of a lawful history stand in their places
front : {A : Type 0} (n : ℕ) (xs : List A) → Begins (take n xs) xs
front n xs = (drop n xs, sym (take-append-drop n xs))

placed_at : (all : Histories) → AreLawful all → (n : Counts) → stand_from position_of 1 (lists_of (first_of all n)).events ≡ true
placed_at all is n =
    let h : List (Stored Event) = take n.events all.events in
    let begins : Begins h all.events = front n.events all.events in
    (rooms_are_valid h (begins_orderly h all.events begins is.orderly) (keeps_law_front lawful_store h all.events begins is.events)).0

module _ (site : Site) (all : Histories) (lawful : AreLawful all) (user : List ℕ) (device : ℕ) where
  abbrev pub w : Server RoomView RoomDelta
  w = server_for user

  abbrev pub lists_in : Answered → Lists
  lists_in a = lists_of (first_of all (counts a.mark))

  -- what the device asks, in mx_fold's words, and the mark
  abbrev pub device_asks : Request → Answered → ℕ × Ask
  device_asks r a = (device, cond (is_of_device user device r.who) (asked_of site (lists_in a) r.who r.ask) Else)

  abbrev pub all_asks : List Request → List Answered → List (ℕ × Ask)
  all_asks [] answers = []
  all_asks (r ∷ rs) [] = []
  all_asks (r ∷ rs) (a ∷ answers) = device_asks r a ∷ all_asks rs answers

  one_alike : (r : Request) (a : Answered) → a.said ≡ answered site (first_of all (counts a.mark)) a.mark a.mark.now r.who r.ask
      → Alike (exchange_of site user device all r a).said (exchange_at w all (device_asks r a) (mark_of a)).said
  one_alike r a is = elim (cases_Bool (is_of_device user device r.who)) [
    | inl own ↦
        let same : r.who.user ≡ user = (bytes_eq-Decides r.who.user user).0 (and_parts (nat_eq r.who.device device) (bytes_eq r.who.user user) own).1 in
        let there : Alike (heard (asked_of site (lists_in a) r.who r.ask) (act_said (first_of all (counts a.mark)) a.mark (asked site a.mark.now r.who r.ask)))
        (answer_to w (lists_in a) user (asked_of site (lists_in a) r.who r.ask)) =
        subst (λ u. Alike (heard (asked_of site (lists_in a) r.who r.ask) (act_said (first_of all (counts a.mark)) a.mark (asked site a.mark.now r.who r.ask)))
        (answer_to (server_for u) (lists_in a) u (asked_of site (lists_in a) r.who r.ask))) same
        (act_alike site (first_of all (counts a.mark)) (placed_at all lawful (counts a.mark)) a.mark a.mark.now r.who r.ask) in
        rw (own, is) (by_memory a.mark.memory (asked_of site (lists_in a) r.who r.ask) _ there)
    | inr others ↦ rw others (other a.mark.memory)
  ] where
    by_memory : (memory : Bool) (x : Ask) (told : _) → Alike (heard x told) (answer_to w (lists_in a) user x)
        → Alike (heard x (if memory then (said.NoMemory refused_memory) else told)) (cond memory PassedOver (answer_to w (lists_in a) user x))
    by_memory true x told h = rw (nothing_heard x) tt
    by_memory false x told h = h

    other : (memory : Bool) → Alike PassedOver (cond memory PassedOver (answer_to w (lists_in a) user Else))
    other true = tt
    other false = tt

  pub chain_same : (f : Selection) (rs : List Request) (answers : List Answered) → AreAnswers site all rs answers → (client : Option (Client RoomView))
      → chain w device f client (exchanges_of site user device all rs answers) ≡ chain w device f client (exchanges w all (all_asks rs answers) (marks_of rs answers))
  chain_same f [] answers h client = refl
  chain_same f (r ∷ rs) [] h client = refl
  chain_same f (r ∷ rs) (a ∷ answers) h client =
      chain_same f rs answers h.1 (cond (nat_eq device device) (with_said w user f (fronts_of (lists_in a)).e (exchange_of site user device all r a).said client) client)
      ∙ ap (λ next. chain w device f (cond (nat_eq device device) next client) (exchanges w all (all_asks rs answers) (marks_of rs answers)))
      (same_effect w user f (fronts_of (lists_in a)).e (exchange_of site user device all r a).said (exchange_at w all (device_asks r a) (mark_of a)).said (one_alike r a h.0) client)

  pub reach_same : (f : Selection) (rs : List Request) (answers : List Answered) → AreAnswers site all rs answers → (client : Option (Client RoomView))
      → PagesReach w device f client (exchanges_of site user device all rs answers)
      → PagesReach w device f client (exchanges w all (all_asks rs answers) (marks_of rs answers))
  reach_same f [] answers h client reach = tt
  reach_same f (r ∷ rs) [] h client reach = tt
  reach_same f (r ∷ rs) (a ∷ answers) h client reach =
      let front = (fronts_of (lists_in a)).e in
      let heard_as = (exchange_of site user device all r a).said in
      let answer = (exchange_at w all (device_asks r a) (mark_of a)).said in
      let alike = one_alike r a h.0 in (
        λ mine. same_reach f front heard_as answer alike client (reach.0 mine),
        subst (λ next. PagesReach w device f (cond (nat_eq device device) next client) (exchanges w all (all_asks rs answers) (marks_of rs answers)))
            (same_effect w user f front heard_as answer alike client)
            (reach_same f rs answers h.1 (cond (nat_eq device device) (with_said w user f front heard_as client) client) reach.1),
      )

  follow_same : (f : Selection) (rs : List Request) (answers : List Answered) (ons : List ℕ) → AreAnswers site all rs answers → (client : Option (Client RoomView)) (last : Option ℕ)
      → PagesFollow w device f client last ons (exchanges_of site user device all rs answers)
      → PagesFollow w device f client last ons (exchanges w all (all_asks rs answers) (marks_of rs answers))
  follow_same f [] answers ons h client last follow = tt
  follow_same f (r ∷ rs) [] ons h client last follow = tt
  follow_same f (r ∷ rs) (a ∷ answers) [] h client last follow = absurd follow
  follow_same f (r ∷ rs) (a ∷ answers) (on ∷ ons) h client last follow =
      let front = (fronts_of (lists_in a)).e in
      let heard_as = (exchange_of site user device all r a).said in
      let answer = (exchange_at w all (device_asks r a) (mark_of a)).said in
      let alike = one_alike r a h.0 in
      let rest = exchanges w all (all_asks rs answers) (marks_of rs answers) in (
        λ mine. same_follows f on last heard_as answer alike client (follow.0 mine),
        subst (λ next. PagesFollow w device f (cond (nat_eq device device) next client) (cond (nat_eq device device && is_taken f answer client) (Some on) last) ons rest)
            (same_effect w user f front heard_as answer alike client)
            (subst (λ t. PagesFollow w device f (cond (nat_eq device device) (with_said w user f front heard_as client) client) (cond (nat_eq device device && t) (Some on) last) ons rest)
            (same_taken f heard_as answer alike client)
            (follow_same f rs answers ons h.1 (cond (nat_eq device device) (with_said w user f front heard_as client) client)
            (cond (nat_eq device device && is_taken f heard_as client) (Some on) last) follow.1)),
      )

  all_seen : (rs : List Request) (answers : List Answered) → AreAnswers site all rs answers
      → AreSent w (exchanges w all (all_asks rs answers) (marks_of rs answers)) → AreSent w (exchanges_of site user device all rs answers)
  all_seen [] answers h seen = tt
  all_seen (r ∷ rs) [] h seen = tt
  all_seen (r ∷ rs) (a ∷ answers) h seen = (
    sees_same w (lists_in a) user (exchange_of site user device all r a).said (exchange_at w all (device_asks r a) (mark_of a)).said (one_alike r a h.0) seen.0,
    all_seen rs answers h.1 seen.1,
  )

  abbrev fewer_of : Counts → fold.Counts
  fewer_of n = record { events = n.events; receipts = n.receipts; accounts = n.accounts }

  rises : (stops : Stops) (before : Counts) (rs : List Request) (answers : List Answered) → AreExchanges site stops all before rs answers → MarksRise (fewer_of before) (marks_of rs answers) (fold.counts_of all)
  rises stops before [] [] h = record { events = h.events; receipts = h.receipts; accounts = h.accounts }
  rises stops before [] (a ∷ answers) h = absurd h
  rises stops before (r ∷ rs) [] h = absurd h
  rises stops before (r ∷ rs) (a ∷ answers) h = (record { events = h.0.later.events; receipts = h.0.later.receipts; accounts = h.0.later.accounts }, rises stops (counts a.mark) rs answers h.1)

from_nothing : (low high : fold.Counts) (ms : List Mark) → MarksRise low ms high → MarksRise no_stores ms high
from_nothing low high [] h = record { events = omega arith; receipts = omega arith; accounts = omega arith }
from_nothing low high (m ∷ ms) h = (record { events = omega arith; receipts = omega arith; accounts = omega arith }, h.1)

are_answers : (site : Site) (stops : Stops) (all : Histories) (before : Counts) (rs : List Request) (answers : List Answered)
    → AreExchanges site stops all before rs answers → AreAnswers site all rs answers
are_answers site stops all before [] answers h = tt
are_answers site stops all before (r ∷ rs) [] h = tt
are_answers site stops all before (r ∷ rs) (a ∷ answers) h = (h.0.said_is, are_answers site stops all (counts a.mark) rs answers h.1)

pub answers_agree : AnswersAgree
answers_agree site stops all before rs answers h lawful user device f folds =
    subst (λ client. IfSome client (Agrees (server_for user) user f (lists_of all)))
    (sym (chain_same site all lawful user device f rs answers (are_answers site stops all before rs answers h) None))
    (connections_agree (server_for user) all lawful (section_law (server_of user) (λ d. user) (lists_of all)) (all_asks site all lawful user device rs answers) (marks_of rs answers)
    (from_nothing _ (fold.counts_of all) (marks_of rs answers) (rises site all lawful user device stops before rs answers h)) device f folds)

pub clients_agree : ClientsAgree
clients_agree site all rs answers h lawful user device f folds reach =
    subst (λ client. IfSome client (Agrees (server_for user) user f (lists_of all))) (sym (chain_same site all lawful user device f rs answers h None))
    (law.clients_agree (server_for user) all lawful (section_law (server_of user) (λ d. user) (lists_of all)) (all_asks site all lawful user device rs answers) (marks_of rs answers)
    device f folds (reach_same site all lawful user device f rs answers h None reach))

pub clients_redact : ClientsRedact
clients_redact site all rs answers h lawful user device f folds =
    subst (λ client. IfSome (option_map (redacted_client (server_for user) user f) client) (Agrees (server_for user) user f (lists_of all)))
    (sym (chain_same site all lawful user device f rs answers h None))
    (redacting.clients_redact (server_for user) all lawful (section_law (server_of user) (λ d. user) (lists_of all)) (all_asks site all lawful user device rs answers)
    (marks_of rs answers) device f folds)

pub clients_see : ClientsSee
clients_see site all rs answers h lawful = record {
  sent = λ user device.
      all_seen site all lawful user device rs answers h
      (connections_see (server_for user) all (all_asks site all lawful user device rs answers) (marks_of rs answers));
  pages = pages_see site all rs answers h;
}

pub answers_see : AnswersSee
answers_see site stops all before rs answers h lawful = clients_see site all rs answers (are_answers site stops all before rs answers h) lawful

pub followers_agree : FollowersAgree
followers_agree site all ons rs answers h rise lawful user device f folds follow =
    subst (λ client. IfSome client (Agrees (server_for user) user f (lists_of all))) (sym (chain_same site all lawful user device f rs answers h None))
    (law.clients_agree (server_for user) all lawful (section_law (server_of user) (λ d. user) (lists_of all)) (all_asks site all lawful user device rs answers) (marks_of rs answers)
    device f folds
    (followers_reach (server_for user) all (all_asks site all lawful user device rs answers) (marks_of rs answers) ons rise device f
    (follow_same site all lawful user device f rs answers ons h None None follow)))
