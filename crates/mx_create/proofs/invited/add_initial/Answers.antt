use Rattle.std.proofs.Common.{◌≡◌, ◌+◌, [], ◌∷◌, ◌++◌, take, arith}
use Rattle.std.proofs.lemmas.Grind.{common_steps}
use Rattle.mx_create.specs.Strangers.{invited_by}
use Rattle.mx_create.proofs.Sets.{adds_more}
use Rattle.mx_create.proofs.invited.add_initial.Goals as goal

pub entries-preserved : goal.entries-preserved
entries-preserved c =
    let js = c.listed-entry-items.result.now in
    let i = c.entries.entry-index in
    let more : take (i + 1) js ≡ take i js ++ c.entry-item.result ∷ [] = grind (arith, common_steps, c.entry-item.is, c.entries-test.true) in
    adds_more invited_by js i c.entry-item.result _ c.args.strangers.now c.entries.strangers c.add.new.strangers more c.invited_by.ensures c.entries.invariant c.in_ok-add.ensures
