use Rattle.std.proofs.Common.{}
use Rattle.mx_create.specs.Blocks.{creating}
use Rattle.mx_create.proofs.Drafts.{rules_put}
use Rattle.mx_create.proofs.creation.push_rules.Goals as goal

pub returns : goal.returns
returns c =
    rules_put (creating c.args.by.now) c.args.preset _ _ _ _ _ _ _
    c.join_rule-rule.ensures c.history_visibility-shown.ensures c.guest_access-access.ensures c.in_ok-push_text.ensures c.in_ok-push_text-2.ensures c.in_ok-push_text-3.ensures
