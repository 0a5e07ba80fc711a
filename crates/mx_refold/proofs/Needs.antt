-- A client that doesn't redact its copies by what its timelines hold doesn't agree.
use Rattle.std.proofs.Common.{◌≡◌, ℕ, Bool, true, false, [], ◌∷◌, Some, refl, sym, ap, inl, inr, arith}
use Rattle.std.proofs.lemmas.Bool.{false≢true}
use Rattle.mx_folding.specs.Rooms.{Room}
use Rattle.mx_folding.specs.Redactions.{is_named}
use Rattle.mx_folding.specs.Parts.{gap_at}
use Rattle.mx_folding.specs.Clients.{Held}
use Rattle.mx_folding.specs.Agreement.{IsDue}
use Rattle.mx_folding.specs.Stories.{Story, IsStory}
use Rattle.mx_folding.specs.Chains.{Paged}
use Rattle.mx_folding_needs.specs.Premises.{Item, all_asked}
use Rattle.mx_folding_needs.proofs.Plain.{at, naming, events, key_by, room_of, rest_of, story, tokens, tokens_rise, synced, in_order, by_key, reds, joins, rests, held_room}
use Rattle.mx_refold.specs.Chains.{NeedsRedactions}

-- a room where each event is sent
abbrev room : Room Item Bool
room = room_of (λ p. true) (λ p. true)

abbrev plain : Story Item Bool ℕ ℕ ℕ
plain = story 1 room rest_of

is_plain : IsStory tokens plain
is_plain =
    let order = in_order all_asked room in
    let keys = by_key all_asked room (λ e. key_by (λ p. true) e.place) in
    let red = reds all_asked room (key_by (λ p. true)) (λ p. false) in
    let joined = joins all_asked 1 room rest_of (λ e. true) in
    let rest = rests all_asked tokens (λ p. true) in
    record {
      room = record {
        ascends = order.ascends;
        keys = keys.keys;
        kept = keys.kept;
        red_at = red.red_at;
        red_key = red.red_key;
        red_sender = red.red_sender;
        red_names = red.red_names;
        red_red = red.red_red;
        earlier = order.earlier;
        stayed_less = joined.stayed_less;
      };
      stays = joined.stays;
      kinds = joined.kinds;
      stayed = joined.stayed;
      rest = record { folds = λ i j next here there. refl; still = λ i j next here there same. refl };
    }

-- at 2 the client leaves a gap; at 3 it is sent the redaction of 2; the gap's page at 2 has 2 unredacted
pub needs_redactions : NeedsRedactions
needs_redactions law =
    let held = law tokens tokens_rise (λ x. plain) (λ x. is_plain)
    (synced 0 2 ∷ synced 10 3 ∷ Paged 10 2 (λ x. Some (record { before = []; gap = gap_at 0 2 2; behind = Held naming ∷ [] })) ∷ [])
    (tt, (refl, ((λ x. (omega arith, (_, _, refl, refl))), tt))) tt in
    let due : IsDue room events 3 (is_named room events) (at 2) = (held_room tokens plain _ _ _ _ _ _ held).held_copies.1.0 in
    let e : Item = due.copy.event in
    let place : e.place ≡ 2 = elim due.copy.copied [ inl c ↦ ap (λ (i : Item). i.place) (sym c) | inr c ↦ ap (λ (i : Item). i.place) (sym c) ] in
    let same : at 2 ≡ record e { bare = true } = due.redacted (ap (λ q. is_named room events q) place) in
    false≢true (ap (λ (i : Item). i.bare) same)
