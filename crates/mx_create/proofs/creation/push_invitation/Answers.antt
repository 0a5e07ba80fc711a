use Rattle.std.proofs.Common.{}
use Rattle.mx_create.specs.Blocks.{creating}
use Rattle.mx_create.proofs.Drafts.{invited_put}
use Rattle.mx_create.proofs.creation.push_invitation.Goals as goal

pub returns-in_ok-push : goal.returns-in_ok-push
returns-in_ok-push c =
    invited_put (creating c.args.by.now) c.args.ask.now c.args.user.now _ _ _ _ _ c.in-Some.ensures c.as_str.ensures c.in_ok-content.ensures c.in_ok-push.ensures
