use Rattle.std.proofs.Common.{◌≡◌, ◌+◌, [], ◌∷◌, ◌++◌, take, arith}
use Rattle.std.proofs.lemmas.Grind.{common_steps}
use Rattle.mx_json.specs.declared.value.Json.TheVariants as json
use Rattle.mx_records.proofs.Items.{made_more}
use Rattle.mx_records.proofs.transactions.path_value.Goals as goal

pub parts-preserved : goal.parts-preserved
parts-preserved c =
    let l = c.parts in
    let items = c.as_slice-part-items.result.now in
    let more : take (l.part-index + 1) items ≡ take l.part-index items ++ c.part-item.result ∷ [] = grind (arith, common_steps, c.part-item.is, c.parts-test.true) in
    made_more json.Text _ _ c.part-item.result _ _ more l.invariant c.in_ok-push_text.ensures
