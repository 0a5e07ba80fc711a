-- Without the premises on state keys, on redaction and on who stayed, the law fails.
use Rattle.std.proofs.Common.{◌≡◌, ℕ, ◌==◌, Bool, true, false, cond, not, ◌&&◌, nat_lt, Some, None, refl, ap, sym, ◌∙◌, subst, inl, inr, eqb-true, Option}
use Rattle.std.proofs.lemmas.Bool.{true≢false, false≢true}
use Rattle.std.specs.List.{Contains}
use Rattle.std.proofs.lemmas.List.Elements.{All-contains, All-from_recursion}
use Rattle.mx_window.specs.Windows.{between}
use Rattle.mx_folding.specs.Rooms.{Room}
use Rattle.mx_folding.specs.Redactions.{is_named}
use Rattle.mx_folding.specs.Agreement.{IsDue}
use Rattle.mx_folding.specs.Stories.{joined_in}
use Rattle.mx_folding_needs.specs.Premises.{Item, all_asked, FailsWith}
use Rattle.mx_folding_needs.proofs.Plain.{at, naming, events, equal_is, key_by, room_of, rest_of, story, in_order, by_key, reds, joins, agrees, unheld}

-- the filter doesn't pass the event that has the key
pub needs_kept : FailsWith (record all_asked { kept = false })
needs_kept law =
    let r : Room Item Bool = record (room_of (λ p. false) (λ p. p == 1)) { keeps = λ e. false } in
    unheld r true (at 1) refl refl refl
    (agrees _ law r (in_order _ r) (record { keys = equal_is; kept = tt }) (reds _ r (key_by (λ p. p == 1)) (λ p. false)) (joins _ 3 r _ (λ e. false)))

-- the event's own key is that of a lazy member event, and is said to be another
pub needs_keys : FailsWith (record all_asked { keys = false })
needs_keys law =
    let r : Room Item Bool = record (room_of (λ p. false) (λ p. true)) { same = λ k l. not k; lazy = true; member = λ k. k } in
    unheld r false naming refl refl refl
    (agrees _ law r (in_order _ r) (record { keys = tt; kept = λ k e h. refl }) (reds _ r (key_by (λ p. true)) (λ p. false)) (joins _ 3 r _ (λ e. false)))

-- who stayed joined from 1 to 3 didn't stay to 2: a lazy member event between them is owed
pub needs_stayed_less : FailsWith (record all_asked { stayed_less = false })
needs_stayed_less law =
    let r : Room Item Bool = record (room_of (λ p. false) (λ p. p == 2)) { lazy = true; stayed = λ b t. t == 3 } in
    let j = joins all_asked 3 r rest_of (λ e. false) in
    unheld r true (at 2) refl refl refl
    (agrees _ law r (in_order _ r) (by_key _ r (λ e. key_by (λ p. p == 2) e.place)) (reds _ r (key_by (λ p. p == 2)) (λ p. false))
    (record {
      stayed_less = tt;
      stays = j.stays;
      kinds = j.kinds;
      stayed = λ b s h e. subst (λ t. joined_in (story 3 r rest_of) t
          ≡ true) (sym (eqb-true s 3 e)) refl;
    }))

-- who stayed joined wasn't joined: the same is owed
pub needs_stayed : FailsWith (record all_asked { stayed = false })
needs_stayed law =
    let r : Room Item Bool = record (room_of (λ p. false) (λ p. p == 2)) { lazy = true; stayed = λ b t. true } in
    let j = joins all_asked 3 r rest_of (λ e. false) in
    unheld r true (at 2) refl refl refl
    (agrees _ law r (in_order _ r) (by_key _ r (λ e. key_by (λ p. p == 2) e.place)) (reds _ r (key_by (λ p. p == 2)) (λ p. false))
    (record { stayed_less = λ b s t h i e. e; stays = j.stays; kinds = j.kinds; stayed = tt }))

-- redaction takes the key
pub needs_red_key : FailsWith (record all_asked { red_key = false })
needs_red_key law =
    let key : Item → Option Bool = λ e. cond (not e.bare && e.place == 2) (Some true) None in
    let r : Room Item Bool = record (room_of (λ p. true) (λ p. true)) { key = key } in
    unheld r true (at 2) refl refl refl
    (agrees _ law r (in_order _ r) (by_key _ r key)
    (record { red_at = λ e. refl; red_key = tt; red_names = λ e. refl; red_sender = λ e. refl; red_red = λ e. refl }) (joins _ 3 r _ (λ e. true)))

-- a redacted event is by the user whose lazy member event isn't sent
pub needs_red_sender : FailsWith (record all_asked { red_sender = false })
needs_red_sender law =
    let r : Room Item Bool = record (room_of (λ p. nat_lt 1 p) (λ p. p == 1)) { sender = λ e. e.bare; lazy = true } in
    unheld r true (at 1) refl refl refl
    (agrees _ law r (in_order _ r) (by_key _ r (λ e. key_by (λ p. p == 1) e.place))
    (record { red_at = λ e. refl; red_key = λ e. refl; red_names = λ e. refl; red_sender = tt; red_red = λ e. refl })
    (joins _ 3 r _ (λ e. nat_lt 1 e.place)))

-- redaction moves an event
pub needs_red_at : FailsWith (record all_asked { red_at = false })
needs_red_at law =
    let r : Room Item Bool = record (room_of (λ p. true) (λ p. true)) { red = λ e. record e { place = 9; bare = true } } in
    let moved =
    (agrees _ law r (in_order _ r) (by_key _ r (λ e. key_by (λ p. true) e.place))
    (record { red_at = tt; red_key = λ e. refl; red_names = λ e. refl; red_sender = λ e. refl; red_red = λ e. refl })
    (joins _ 3 r _ (λ e. true))).timeline.whole in
    absurd cc

listed_plain : (c : Item) → Contains events c → c.bare ≡ false
listed_plain c l = All-contains (λ e. e.bare ≡ false) events c (All-from_recursion (λ e. e.bare ≡ false) events (refl, (refl, (refl, tt)))) l

-- no copy is redacted that no redaction names
undone : (r : Room Item Bool) (named : ℕ → Bool) (p : ℕ) → is_named r (between (λ e. e.place) p 3 events) p ≡ false
    → IsDue (record r { at = λ e. e.place; red = λ e. record e { bare = true } }) events 3 named (record (at p) { bare = true }) → ⊥
undone r named p none due =
    let e : Item = due.copy.event in
    let place : e.place ≡ p = elim due.copy.copied [ inl c ↦ ap (λ (i : Item). i.place) (sym c) | inr c ↦ ap (λ (i : Item). i.place) (sym c) ] in
    let same : record (at p) { bare = true } ≡ e = due.plain (ap (λ q. is_named r (between (λ i. i.place) q 3 events) q) place ∙ none) in
    true≢false (ap (λ (i : Item). i.bare) same ∙ listed_plain e due.copy.listed)

-- 2, which 3 redacts, then names 1
pub needs_red_names : FailsWith (record all_asked { red_names = false })
needs_red_names law =
    let r : Room Item Bool = record (room_of (λ p. true) (λ p. true)) { names = λ e. cond e.bare (Some 1) e.names } in
    let o = in_order all_asked r in
    undone r _ 1 refl (agrees _ law r (record { ascends = o.ascends; earlier = o.earlier }) (by_key _ r (λ e. key_by (λ p. true) e.place))
    (record { red_at = λ e. refl; red_key = λ e. refl; red_names = tt; red_sender = λ e. refl; red_red = λ e. refl })
    (joins _ 3 r _ (λ e. true))).held_copies.0

-- 1 names 2
pub needs_earlier : FailsWith (record all_asked { earlier = false })
needs_earlier law =
    let r : Room Item Bool = record (room_of (λ p. true) (λ p. true)) { names = λ e. cond (e.place == 1) (Some 2) None } in
    let o = in_order all_asked r in
    undone r _ 2 refl (agrees _ law r (record { ascends = o.ascends; earlier = tt }) (by_key _ r (λ e. key_by (λ p. true) e.place))
    (record { red_at = λ e. refl; red_key = λ e. refl; red_names = λ e. refl; red_sender = λ e. refl; red_red = λ e. refl })
    (joins _ 3 r _ (λ e. true))).held_copies.1.0

-- what is redacted twice, as it is sent and by the client, is as it was
pub needs_red_red : FailsWith (record all_asked { red_red = false })
needs_red_red law =
    let r : Room Item Bool = record (room_of (λ p. true) (λ p. true)) { red = λ e. record e { bare = not e.bare } } in
    let due : IsDue r events 3 (is_named r events) (at 2) =
    (agrees _ law r (in_order _ r) (by_key _ r (λ e. key_by (λ p. true) e.place))
    (record { red_at = λ e. refl; red_key = λ e. refl; red_names = λ e. refl; red_sender = λ e. refl; red_red = tt })
    (joins _ 3 r _ (λ e. true))).held_copies.1.0 in
    let e : Item = due.copy.event in
    let place : e.place ≡ 2 = elim due.copy.copied [ inl c ↦ ap (λ (i : Item). i.place) (sym c) | inr c ↦ ap (λ (i : Item). i.place) (sym c) ] in
    let same : at 2 ≡ record e { bare = not e.bare } = due.redacted (ap (λ q. is_named r events q) place) in
    false≢true (ap (λ (i : Item). i.bare) same ∙ ap not (listed_plain e due.copy.listed))
