use Rattle.std.proofs.Common.{}
use Rattle.mx_rules.proofs.Pushing.{pushed_three}
use Rattle.mx_rules.proofs.conditions.push_invitation.Goals as goal

pub returns : goal.returns
returns c = pushed_three c.push_match-3.result _ _ _ _ _ _ _ c.in_ok-push_match.ensures c.in_ok-push_match-2.ensures c.push_match-3.ensures
