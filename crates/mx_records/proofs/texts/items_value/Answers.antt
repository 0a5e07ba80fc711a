use Rattle.std.proofs.Common.{◌≡◌, ◌+◌, [], ◌∷◌, ◌++◌, take, ap, ◌∙◌, arith}
use Rattle.std.proofs.lemmas.Grind.{common_steps}
use Rattle.mx_records.proofs.Items.{made_more}
use Rattle.mx_records.proofs.texts.items_value.Goals as goal

pub items-preserved : goal.items-preserved
items-preserved g c =
    let l = c.items in
    let items = c.as_slice-item-items.result.now in
    let more : take (l.item-index + 1) items ≡ take l.item-index items ++ c.item-item.result ∷ [] = grind (arith, common_steps, c.item-item.is, c.items-test.true) in
    made_more g.I.Recorded.value _ _ c.item-item.result _ _ more l.invariant (c.in_ok-push.ensures.ok ∙ ap (λ j. l.values ++ j ∷ []) c.in_ok-to_value.ensures.value)
