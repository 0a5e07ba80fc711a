use Rattle.std.proofs.Common.{}
use Rattle.std.proofs.lemmas.Result.{IfOk-weaker}
use Rattle.mx_unread.proofs.Rereading.{read_there, rules_there}
use Rattle.mx_unread.proofs.read_rules.take_rules.Goals as goal

pub returns-clause-rules : goal.returns-clause-rules
returns-clause-rules c =
    IfOk-weaker c.known_or_read.result _ _
    (λ r of'. rules_there c.args.user.now c.args.position c.last_rules-at.result c.args.accounts.now c.front-front.ensures.placed c.last_rules-at.ensures r of') c.known_or_read.ensures

pub returns-clause-stand : goal.returns-clause-stand
returns-clause-stand c =
    IfOk-weaker c.known_or_read.result _ _
    (λ r of'. read_there c.args.user.now c.args.position c.last_rules-at.result c.args.accounts.now c.front-front.ensures.placed c.last_rules-at.ensures r of') c.known_or_read.ensures
