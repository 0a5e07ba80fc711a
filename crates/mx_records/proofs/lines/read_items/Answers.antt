use Rattle.std.proofs.Common.{◌≡◌, ◌+◌, [], ◌∷◌, ◌++◌, Some, take, arith}
use Rattle.std.proofs.lemmas.Grind.{common_steps}
use Rattle.mx_records.proofs.Items.{read_more}
use Rattle.mx_records.proofs.lines.read_items.Goals as goal

pub values-preserved : goal.values-preserved
values-preserved g c =
    let l = c.values in
    let items = c.as_slice-value-items.result.now in
    let more : take (l.value-index + 1) items ≡ take l.value-index items ++ c.value-item.result ∷ [] = grind (arith, common_steps, c.value-item.is, c.values-test.true) in
    let read : g.I.Recorded.read c.value-item.result ≡ Some c.in-Some.item = rw c.in-Some.is at c.in_ok-item.ensures.read in
    read_more g.I.Recorded.read _ _ c.value-item.result _ _ c.in-Some.item more l.invariant read c.in_ok-push-in-Some.ensures.ok
