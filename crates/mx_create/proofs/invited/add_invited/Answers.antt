use Rattle.std.proofs.Common.{◌≡◌, ◌+◌, [], ◌∷◌, ◌++◌, take, arith}
use Rattle.std.proofs.lemmas.Grind.{common_steps}
use Rattle.mx_json.specs.Fields.{text_of}
use Rattle.mx_create.proofs.Sets.{adds_more}
use Rattle.mx_create.proofs.invited.add_invited.Goals as goal

pub users-preserved : goal.users-preserved
users-preserved c =
    let js = c.listed-user-items.result.now in
    let i = c.users.user-index in
    let more : take (i + 1) js ≡ take i js ++ c.user-item.result ∷ [] = grind (arith, common_steps, c.user-item.is, c.users-test.true) in
    adds_more text_of js i c.user-item.result _ c.args.strangers.now c.users.strangers c.add.new.strangers more c.as_str.ensures c.users.invariant c.in_ok-add.ensures
