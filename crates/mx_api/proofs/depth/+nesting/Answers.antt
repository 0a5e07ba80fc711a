use Rattle.std.proofs.Common.{◌≡◌, ◌+◌, ◌-◌, nat_le, [], ◌∷◌, ◌++◌, take, sym, ap, ◌∙◌, refl, arith}
use Rattle.std.proofs.lemmas.Grind.{common_steps}
use Rattle.std.proofs.lemmas.List.{take_all}
use Rattle.mx_api.specs.Levels.{levels}
use Rattle.mx_api.proofs.Depths.{deepest, items_deepest, members_deepest, more_within, one_level, too_deep}
use Rattle.mx_api.proofs.depth.+nesting.Goals as goal

pub list_within-returns-then-not-nests_within : goal.list_within-returns-then-not-nests_within
list_within-returns-then-not-nests_within t c =
    let l = c.loop-item in
    let js = c.as_slice-item-items.result.now in
    let more : take (l.item-index + 1) js ≡ take l.item-index js ++ c.item-item.result ∷ [] = grind (arith, common_steps, c.item-item.is, c.loop-item-test.true) in
    sym (one_level _ c.args.most c.if-most-eq0.false ∙ ap (λ d. nat_le d (c.args.most - 1)) (items_deepest c.args.items.now ∙ ap (deepest levels) (sym c.as_slice-item-items.ensures))
    ∙ too_deep levels (c.args.most - 1) js _ _ (l.item-index + 1) c.item-item.result _ more refl c.nests_within.ensures c.if-not-nests_within.true)

pub list_within-loop-item-preserved : goal.list_within-loop-item-preserved
list_within-loop-item-preserved t c =
    let l = c.loop-item in
    let js = c.as_slice-item-items.result.now in
    let more : take (l.item-index + 1) js ≡ take l.item-index js ++ c.item-item.result ∷ [] = grind (arith, common_steps, c.item-item.is, c.loop-item-test.true) in
    more_within levels (c.args.most - 1) _ _ c.item-item.result _ more l.invariant c.nests_within.ensures c.if-not-nests_within.false

pub list_within-returns : goal.list_within-returns
list_within-returns t c =
    let l = c.loop-item in
    let js = c.as_slice-item-items.result.now in
    sym (one_level _ c.args.most c.if-most-eq0.false ∙ ap (λ d. nat_le d (c.args.most - 1)) (items_deepest c.args.items.now ∙ ap (deepest levels) (sym (take_all l.item-index js c.loop-item-test.false ∙ c.as_slice-item-items.ensures)))
    ∙ l.invariant)

pub members_within-returns-then-not-nests_within : goal.members_within-returns-then-not-nests_within
members_within-returns-then-not-nests_within t c =
    let l = c.loop-member in
    let ms = c.as_slice-member-items.result.now in
    let more : take (l.member-index + 1) ms ≡ take l.member-index ms ++ c.member-item.result ∷ [] = grind (arith, common_steps, c.member-item.is, c.loop-member-test.true) in
    sym (one_level _ c.args.most c.if-most-eq0.false ∙ ap (λ d. nat_le d (c.args.most - 1)) (members_deepest c.args.members.now ∙ ap (deepest (λ m. levels m.value)) (sym c.as_slice-member-items.ensures.value))
    ∙ too_deep (λ m. levels m.value) (c.args.most - 1) ms _ _ (l.member-index + 1) c.member-item.result _ more refl c.nests_within.ensures c.if-not-nests_within.true)

pub members_within-loop-member-preserved : goal.members_within-loop-member-preserved
members_within-loop-member-preserved t c =
    let l = c.loop-member in
    let ms = c.as_slice-member-items.result.now in
    let more : take (l.member-index + 1) ms ≡ take l.member-index ms ++ c.member-item.result ∷ [] = grind (arith, common_steps, c.member-item.is, c.loop-member-test.true) in
    more_within (λ m. levels m.value) (c.args.most - 1) _ _ c.member-item.result _ more l.invariant c.nests_within.ensures c.if-not-nests_within.false

pub members_within-returns : goal.members_within-returns
members_within-returns t c =
    let l = c.loop-member in
    let ms = c.as_slice-member-items.result.now in
    sym (one_level _ c.args.most c.if-most-eq0.false ∙ ap (λ d. nat_le d (c.args.most - 1)) (members_deepest c.args.members.now ∙ ap (deepest (λ m. levels m.value)) (sym (take_all l.member-index ms c.loop-member-test.false ∙ c.as_slice-member-items.ensures.value)))
    ∙ l.invariant)
