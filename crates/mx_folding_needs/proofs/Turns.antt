-- Without the premises on positions, tokens and pages, on visibility and memberships and on a room's other parts, the law fails.
use Rattle.std.proofs.Common.{◌≡◌, ℕ, zero, suc, ◌≤◌, ◌==◌, ◌-◌, true, false, cond, nat_le, [], ◌∷◌, Some, None, refl, ap, sym, ◌∙◌, arith, le-leb, Bool}
use Rattle.std.proofs.lemmas.Bool.{true≢false, false≢true}
use Rattle.mx_window.proofs.Each.{AllByRecursion-every}
use Rattle.mx_folding.specs.Parts.{gap_at}
use Rattle.mx_folding.specs.Rooms.{Room}
use Rattle.mx_folding.specs.Visible.{Join}
use Rattle.mx_folding.specs.Clients.{Held}
use Rattle.mx_folding.specs.Stories.{Tokens, Rest, Story, joined_in}
use Rattle.mx_folding.specs.Chains.{Paged}
use Rattle.mx_folding_needs.specs.Premises.{Asked, Item, all_asked, RestIf, StoryIf, FailsWith}
use Rattle.mx_folding_needs.proofs.Plain.{at, key_by, room_of, rest_of, story, tokens, tokens_rise, synced, in_order, by_key, reds, joins, rests, held_room, view_or}

-- the room where each event is sent and has the key
abbrev all_sent : Room Item Bool
all_sent = room_of (λ p. true) (λ p. true)

is_story : (a : Asked) (k : Tokens ℕ) (rest : Rest ℕ ℕ ℕ) → RestIf a k (joined_in (story 1 all_sent rest)) rest → StoryIf a k (story 1 all_sent rest)
is_story a k rest h =
    record {
      order = in_order a all_sent;
      keys = by_key a all_sent (λ e. key_by (λ p. true) e.place);
      redaction = reds a all_sent
          (key_by (λ p. true)) (λ p. false);
      joined = joins a 1 all_sent rest (λ e. true);
      rest = h;
    }

-- positions fall
pub needs_ascends : FailsWith (record all_asked { ascends = false })
needs_ascends law =
    let r : Room Item Bool = record all_sent { at = λ e. 4 - e.place; names = λ e. None } in
    let h =
    law tokens tokens_rise (λ x. story 3 r rest_of)
    (λ x. record {
      order = record { ascends = tt; earlier = (λ p h. absurd cc, (λ p h. absurd cc, (λ p h. absurd cc, tt))) };
      keys = by_key _ r
          (λ e. key_by (λ p. true) e.place);
      redaction = record { red_at = λ e. refl; red_key = λ e. refl; red_names = λ e. refl; red_sender = λ e. refl; red_red = λ e. refl };
      joined = joins _ 3 r _
          (λ e. true);
      rest = rests _ _ _;
    })
    (synced 10 1 ∷ synced 10 3 ∷ []) (tt, (refl, tt)) tt in
    let other = (held_room tokens (story 3 r rest_of) _ _ _ _ _ _ h).timeline.whole in
    absurd cc

-- a later token has an earlier position
pub needs_rises : FailsWith (record all_asked { rises = false })
needs_rises law =
    let k : Tokens ℕ = record tokens { before = λ i j. true } in
    let h = law k tt (λ x. story 1 all_sent rest_of) (λ x. is_story _ _ _ (rests _ _ _)) (synced 10 2 ∷ synced 10 1 ∷ []) (tt, (refl, tt)) tt in
    let other = (held_room k (story 1 all_sent rest_of) _ _ _ _ _ _ h).timeline.whole in
    absurd cc

-- a reply's token comes before the one that it answers
pub needs_next : FailsWith (record all_asked { next = false })
needs_next law =
    let h = law tokens tokens_rise (λ x. story 1 all_sent rest_of) (λ x. is_story _ _ _ (rests _ _ _)) (synced 10 2 ∷ synced 10 1 ∷ []) (tt, (tt, tt)) tt in
    let other = (held_room tokens (story 1 all_sent rest_of) _ _ _ _ _ _ h).timeline.whole in
    absurd cc

after_join : (r : Room Item Bool) (s : ℕ) → joined_in (story 1 (record r { at = λ e. e.place }) rest_of) s ≡ true → 1 ≤ s
after_join r zero h = absurd (false≢true h)
after_join r (suc s) h = omega arith

-- a page is judged at a front where the user sees nothing yet
pub needs_past : FailsWith (record all_asked { past = false })
needs_past law =
    let r : Room Item Bool = record all_sent { sends = λ front e. nat_le 1 front } in
    let j = joins all_asked 1 r rest_of (λ e. true) in
    let h =
    law tokens tokens_rise (λ x. story 1 r rest_of)
    (λ x. record {
      order = in_order _ r;
      keys = by_key _ r (λ e. key_by (λ p. true) e.place);
      redaction = reds _ r (key_by (λ p. true))
          (λ p. false);
      joined = record {
        stayed_less = j.stayed_less;
        stays = λ s h t i. AllByRecursion-every _
            (λ e. le-leb 1 t (omega (arith, i, after_join r s h))
            ∙ sym (le-leb 1 s (after_join r s h))) _;
        kinds = j.kinds;
        stayed = j.stayed;
      };
      rest = rests _ _ _;
    })
    (synced 1 2 ∷ Paged 10 0 (λ x. Some (record { before = []; gap = gap_at 0 1 2; behind = Held (at 2) ∷ [] })) ∷ [])
    (tt, ((tt, λ x. (_, _, refl, refl)), tt)) tt in
    let other = (held_room tokens (story 1 r rest_of) _ _ _ _ _ _ h).timeline.whole in
    absurd cc

-- a page is of no gap of the timeline
pub needs_gaps : FailsWith (record all_asked { gaps = false })
needs_gaps law =
    let h = law tokens tokens_rise (λ x. story 1 all_sent rest_of) (λ x. is_story _ _ _ (rests _ _ _))
    (synced 10 2 ∷ Paged 10 2 (λ x. Some (record { before = []; gap = gap_at 0 0 0; behind = [] })) ∷ []) (tt, ((omega arith, tt), tt)) tt in
    let other = (held_room tokens (story 1 all_sent rest_of) _ _ _ _ _ _ h).timeline.whole in
    absurd cc

-- what a joined user sees is hidden at a later front
pub needs_stays : FailsWith (record all_asked { stays = false })
needs_stays law =
    let r : Room Item Bool = record all_sent { sends = λ front e. nat_le front 1 } in
    let j = joins (record all_asked { stays = false }) 1 r rest_of (λ e. true) in
    let h =
    law tokens tokens_rise (λ x. story 1 r rest_of)
    (λ x. record {
      order = in_order _ r;
      keys = by_key _ r (λ e. key_by (λ p. true) e.place);
      redaction = reds _ r (key_by (λ p. true))
          (λ p. false);
      joined = record { stayed_less = j.stayed_less; stays = tt; kinds = j.kinds; stayed = j.stayed };
      rest = rests _ _ _;
    })
    (synced 10 1 ∷ synced 10 2 ∷ []) (tt, (refl, tt)) tt in
    let other = (held_room tokens (story 1 r rest_of) _ _ _ _ _ _ h).timeline.whole in
    absurd cc

-- the user's second member event has no membership: the reply says nothing of the room
pub needs_kinds : FailsWith (record all_asked { kinds = false })
needs_kinds law =
    let g : Story Item Bool ℕ ℕ ℕ = record (story 1 all_sent rest_of) { is_own = λ e. true; membership = λ e. cond (e.place == 1) (Some Join) None } in
    let h =
    law tokens tokens_rise (λ x. g)
    (λ x. record {
      order = in_order _ all_sent;
      keys = by_key _ all_sent (λ e. key_by (λ p. true) e.place);
      redaction = reds _ all_sent
          (key_by (λ p. true))
          (λ p. false);
      joined = record {
        stayed_less = λ b s t h i e. e;
        stays = λ s h t i. AllByRecursion-every _
            (λ e. refl) _;
        kinds = tt;
        stayed = λ b s h e. absurd (false≢true e);
      };
      rest = rests _ _ _;
    })
    (synced 10 1 ∷ synced 10 2 ∷ []) (tt, (refl, tt)) tt in
    let held = h.0 in
    absurd cc

-- what a reply says of the other parts isn't their change
pub needs_folds : FailsWith (record all_asked { folds = false })
needs_folds law =
    let rest : Rest ℕ ℕ ℕ = record rest_of { view = λ t. t; differs = λ i j. true } in
    let h =
    law tokens tokens_rise (λ x. story 1 all_sent rest) (λ x. is_story _ _ _ (record { folds = tt; still = λ i j h p q e. absurd (true≢false e) }))
    (synced 10 3 ∷ synced 10 4 ∷ []) (tt, (refl, tt)) tt in
    let view = ap (view_or 0) h.2 ∙ h.4 in
    absurd cc

-- the other parts change, and the reply has nothing to say of it
pub needs_still : FailsWith (record all_asked { still = false })
needs_still law =
    let rest : Rest ℕ ℕ ℕ = record { view = λ t. t; delta = λ i j. j; changed = λ v d. d; differs = λ i j. false } in
    let h =
    law tokens tokens_rise (λ x. story 1 all_sent rest) (λ x. is_story _ _ _ (record { folds = λ i j h p q. refl; still = tt }))
    (synced 10 3 ∷ synced 10 4 ∷ []) (tt, (refl, tt)) tt in
    let view = ap (view_or 0) h.2 ∙ h.4 in
    absurd cc
