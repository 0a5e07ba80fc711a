use Rattle.std.proofs.Common.{◌∙◌}
use Rattle.mx_create.specs.Blocks.{creating}
use Rattle.mx_create.proofs.Drafts.{all_parts}
use Rattle.mx_create.proofs.creation.drafts.Goals as goal

pub returns : goal.returns
returns c =
    c.from_vec.ensures
    ∙ all_parts (creating c.args.by.now) c.args.preset c.args.ask.now _ _ _ _ _
    c.in_ok-all.ensures c.in_ok-push_initial.ensures c.in_ok-push_named.ensures c.in_ok-push_named-2.ensures c.in_ok-push_invitations.ensures
