-- A client that asks its pages on the connection of its last sync asks them where the lists reach its token.
use Rattle.std.proofs.Common.{◌≡◌, ℕ, Bool, true, false, cond, ◌&&◌, nat_eq, List, [], ◌∷◌, Option, Some, None, refl, sym, ap, ◌∙◌, subst, inl, inr}
use Rattle.std.specs.Prelude.{nat_le}
use Rattle.std.proofs.lemmas.Bool.{cases_Bool, and_parts, eq-eqb}
use Rattle.std.proofs.lemmas.Option.{same_Some}
use Rattle.mx_ids.specs.declared.sync_token.SyncToken.{SyncToken}
use Rattle.mx_event.specs.declared.event.Event.{Event}
use Rattle.mx_folding.specs.Chains.{Opening}
use Rattle.mx_view.specs.Tokens.{is_before}
use Rattle.mx_filter.specs.Sieves as sieves
use Rattle.mx_filter.specs.declared.parts.Selection.{Selection}
use Rattle.mx_fold.specs.Lists.{Lists, Histories, Counts, fronts_of, lists_at}
use Rattle.mx_fold.specs.Servers.{Server}
use Rattle.mx_fold.specs.Replies.{SyncAsk, PageAsk, Ask, Syncs, Pages, Else, Said, Replied, Showed, PassedOver, Reply, answer_to, is_behind, page_asked, reply_of, sees_room}
use Rattle.mx_view.proofs.Orders.{before_parts, before_trans}
use Rattle.mx_fold.specs.Clients.{Client, with_reply, opening_of, with_gap, with_shown, with_said}
use Rattle.mx_fold.specs.Exchanges.{Mark, exchange_at, exchanges}
use Rattle.mx_fold.specs.Anywhere.{AreLater, EachRises, FollowersReach, Follows, PagesFollow, PagesReach, Reaches, after_exchange, answers_token, is_taken, last_after}
use Rattle.mx_fold.proofs.Folding.{IsWithin, next_before, rise_to}

module _ {V D : Type 0} (w : Server V D) (h : Histories) (device : ℕ) (f : Selection) where
  abbrev user : List ℕ
  user = w.user_of device

  abbrev fronts_at : Counts → SyncToken
  fronts_at n = fronts_of (lists_at n h)

  -- where no sync is answered the token stays
  token_stays : (front : ℕ) (high : SyncToken) (said : Said V D) (client : Option (Client V)) → is_taken f said client ≡ false
      → IsWithin w user f high client → IsWithin w user f high (with_said w user f front said client)
  token_stays front high (Replied asks r) client none is = elim (cases_Bool (sieves.same_filter asks.filter f)) [
    | inl same ↦ rw same (by client asks.since (ap (λ b. b && answers_token client asks.since) (sym same) ∙ none) is)
    | inr other ↦ rw other is
  ] where
    by : (client : Option (Client V)) (since : Option SyncToken) → answers_token client since ≡ false → IsWithin w user f high client
        → IsWithin w user f high (with_reply w user f client since asks.extent.after r)
    by client None taken is = absurd (cc taken)
    by None (Some since) taken is = tt
    by (Some c) (Some since) taken is = rw taken is
  token_stays front high (Showed asks page) client none is = elim (cases_Bool (sieves.fits f asks.filter)) [
    | inl fits ↦ rw fits (shown client is)
    | inr other ↦ rw other is
  ] where
    open_or : (c : Client V) (o : Option (Opening Event)) → is_before c.token high ≡ true → is_before (with_gap w user f front asks.room c page o).token high ≡ true
    open_or c None is = is
    open_or c (Some o) is = is

    shown : (client : Option (Client V)) → IsWithin w user f high client → IsWithin w user f high (with_shown w user f front asks page client)
    shown None is = tt
    shown (Some c) is = open_or c (opening_of w user f asks (c.rooms asks.room)) is
  token_stays front high PassedOver client none is = is

  -- the client's token lies at or before the fronts of a mark of the connection of its last sync
  abbrev IsHeld : Option ℕ → Option (Client V) → List ℕ → List Mark → Type 0
  IsHeld None client ons marks = client ≡ None
  IsHeld (Some on) client ons marks = (n : Counts) × IsWithin w user f (fronts_at n) client × AreLater on n ons marks

  nobody_stays : (front : ℕ) (said : Said V D) → is_taken f said None ≡ false → with_said w user f front said None ≡ None
  nobody_stays front (Replied asks r) none = elim (cases_Bool (sieves.same_filter asks.filter f)) [
    | inl same ↦ rw same (by asks.since (ap (λ b. b && answers_token {V = V} None asks.since) (sym same) ∙ none))
    | inr other ↦ rw other refl
  ] where
    by : (since : Option SyncToken) → answers_token {V = V} None since ≡ false → with_reply w user f None since asks.extent.after r ≡ None
    by None taken = absurd (cc taken)
    by (Some since) taken = refl
  nobody_stays front (Showed asks page) none = elim (cases_Bool (sieves.fits f asks.filter)) [
    | inl fits ↦ rw fits refl
    | inr other ↦ rw other refl
  ]
  nobody_stays front PassedOver none = refl

  -- where a sync is answered the client has the reply's token
  token_new : (a : ℕ × Ask) (mark : Mark) (client : Option (Client V)) → is_taken f (exchange_at w h a mark).said client ≡ true
      → IsWithin w user f (fronts_at mark.stores) (with_said w user f (fronts_at mark.stores).e (exchange_at w h a mark).said client)
  token_new a mark client taken = new a.1 mark.memory taken where
    here : Lists
    here = lists_at mark.stores h

    replied : (client : Option (Client V)) (since : Option SyncToken) (after : Bool) (r : Reply V D) → answers_token client since ≡ true
        → is_before r.next (fronts_of here) ≡ true → IsWithin w user f (fronts_of here) (with_reply w user f client since after r)
    replied None None after r is next = next
    replied (Some c) None after r is next = next
    replied None (Some since) after r is next = absurd (cc is)
    replied (Some c) (Some since) after r is next = rw is next

    syncs : (asks : SyncAsk) (b : Bool) → is_taken {V = V} {D = D} f (cond b (Replied asks (reply_of w here (w.user_of a.0) asks)) PassedOver) client ≡ true
        → IsWithin w user f (fronts_of here) (with_said w user f (fronts_of here).e (cond b (Replied asks (reply_of w here (w.user_of a.0) asks)) PassedOver) client)
    syncs asks false is = absurd (cc is)
    syncs asks true is =
        let parts = and_parts (sieves.same_filter asks.filter f) (answers_token client asks.since) is in
        rw parts.0 (replied client asks.since asks.extent.after (reply_of w here (w.user_of a.0) asks) parts.1 (next_before asks.since (fronts_of here)))

    pages : (asks : PageAsk) (b : Bool) → is_taken {V = V} {D = D} f (cond b (Showed asks (page_asked w here (w.user_of a.0) asks)) PassedOver) client ≡ true → ⊥
    pages asks false is = cc is
    pages asks true is = cc is

    new : (asks : Ask) (memory : Bool) → is_taken {V = V} {D = D} f (cond memory PassedOver (answer_to w here (w.user_of a.0) asks)) client ≡ true
        → IsWithin w user f (fronts_of here) (with_said w user f (fronts_of here).e (cond memory PassedOver (answer_to w here (w.user_of a.0) asks)) client)
    new asks true is = absurd (cc is)
    new (Syncs asks) false is = syncs asks (is_behind asks.since (fronts_of here)) is
    new (Pages asks) false is = absurd (pages asks (sees_room w here (w.user_of a.0) asks.room && (nat_le asks.from_cut (fronts_of here).e && is_behind asks.to (fronts_of here))) is)
    new Else false is = absurd (cc is)

  -- a page on that connection
  reaches : (on : ℕ) (last : Option ℕ) (ons : List ℕ) (mark : Mark) (marks : List Mark) (said : Said V D) (client : Option (Client V))
      → Follows f on last said client → IsHeld last client (on ∷ ons) (mark ∷ marks) → Reaches f (fronts_at mark.stores).e said client
  reaches on last ons mark marks (Replied asks r) client follows held = tt
  reaches on last ons mark marks (Showed asks page) None follows held = λ fits. tt
  reaches on None ons mark marks (Showed asks page) (Some c) follows held = λ fits. absurd (cc held)
  reaches on (Some last) ons mark marks (Showed asks page) (Some c) follows held = λ fits.
      let few = held.2.0 (eq-eqb on last (sym (same_Some last on (follows fits)))) in
      (before_parts c.token (fronts_at mark.stores) (before_trans c.token (fronts_at held.0) (fronts_at mark.stores) held.1 (rise_to h held.0 mark.stores few))).0
  reaches on last ons mark marks PassedOver client follows held = tt

  -- one exchange more
  held_taken : (a : ℕ × Ask) (mark : Mark) (client : Option (Client V)) (on : ℕ) (last : Option ℕ) (ons : List ℕ) (marks : List Mark)
      → AreLater on mark.stores ons marks → IsHeld last client (on ∷ ons) (mark ∷ marks)
      → (b t : Bool) → is_taken f (exchange_at w h a mark).said client ≡ t
      → IsHeld (cond (b && t) (Some on) last) (cond b (with_said w user f (fronts_at mark.stores).e (exchange_at w h a mark).said client) client) ons marks
  held_taken a mark client on None ons marks later held false t is = held
  held_taken a mark client on (Some last) ons marks later held false t is = (held.0, held.1, held.2.1)
  held_taken a mark client on last ons marks later held true true is = (mark.stores, token_new a mark client is, later)
  held_taken a mark client on None ons marks later held true false is =
      subst (λ c. is_taken f (exchange_at w h a mark).said c ≡ false → with_said w user f (fronts_at mark.stores).e (exchange_at w h a mark).said c ≡ None)
      (sym held) (nobody_stays (fronts_at mark.stores).e (exchange_at w h a mark).said) is
  held_taken a mark client on (Some last) ons marks later held true false is =
      (held.0, token_stays (fronts_at mark.stores).e (fronts_at held.0) (exchange_at w h a mark).said client is held.1, held.2.1)

  all_reach : (asked : List (ℕ × Ask)) (marks : List Mark) (ons : List ℕ) (last : Option ℕ) (client : Option (Client V)) → EachRises ons marks
      → IsHeld last client ons marks → PagesFollow w device f client last ons (exchanges w h asked marks)
      → PagesReach w device f client (exchanges w h asked marks)
  all_reach [] marks ons last client rise held follow = tt
  all_reach (a ∷ asked) [] ons last client rise held follow = tt
  all_reach (a ∷ asked) (mark ∷ marks) [] last client rise held follow = absurd follow
  all_reach (a ∷ asked) (mark ∷ marks) (on ∷ ons) last client rise held follow = (
    λ mine. reaches on last ons mark marks (exchange_at w h a mark).said client (follow.0 mine) held,
    all_reach asked marks ons (last_after device f (exchange_at w h a mark) client on last) (after_exchange w device f (exchange_at w h a mark) client) rise.1
        (held_taken a mark client on last ons marks rise.0 held (nat_eq a.0 device) (is_taken f (exchange_at w h a mark).said client) refl) follow.1,
  )

pub followers_reach : {V D : Type 0} → FollowersReach V D
followers_reach w h asked marks ons rise device f follow = all_reach w h device f asked marks ons None None rise refl follow
