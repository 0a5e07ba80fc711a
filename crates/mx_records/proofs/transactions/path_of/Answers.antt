use Rattle.std.proofs.Common.{◌≡◌, ◌+◌, [], ◌∷◌, ◌++◌, Some, take, sym, ap, ◌∙◌, arith}
use Rattle.std.proofs.lemmas.Grind.{common_steps}
use Rattle.mx_json.specs.Fields.{text_of}
use Rattle.mx_records.proofs.Items.{read_more}
use Rattle.mx_records.proofs.transactions.path_of.Goals as goal

pub values-preserved : goal.values-preserved
values-preserved c =
    let l = c.values in
    let items = c.as_slice-value-items.result.now in
    let more : take (l.value-index + 1) items ≡ take l.value-index items ++ c.value-item.result ∷ [] = grind (arith, common_steps, c.value-item.is, c.values-test.true) in
    read_more text_of _ _ c.value-item.result _ _ c.in_ok-copy-in-Some.field-0 more l.invariant (sym c.in-Some.ensures ∙ ap Some (sym c.in_ok-copy-in-Some.ensures)) c.in_ok-push-in-Some.ensures.ok
