use Rattle.std.proofs.Common.{◌≡◌, ◌+◌, [], ◌∷◌, ◌++◌, take, arith}
use Rattle.mx_create.specs.Blocks.{creating}
use Rattle.std.proofs.lemmas.Grind.{common_steps}
use Rattle.mx_create.proofs.Drafts.{more_invited}
use Rattle.mx_create.proofs.creation.push_invitations.Goals as goal

pub users-preserved : goal.users-preserved
users-preserved c =
    let js = c.listed-user-items.result.now in
    let i = c.users.user-index in
    let more : take (i + 1) js ≡ take i js ++ c.user-item.result ∷ [] = grind (arith, common_steps, c.user-item.is, c.users-test.true) in
    more_invited (creating c.args.by.now) c.args.ask.now js i c.user-item.result _ c.users.all.items _ more c.users.invariant c.in_ok-push_invitation.ensures
