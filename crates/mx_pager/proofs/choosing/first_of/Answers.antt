use Rattle.std.proofs.Common.{ap, ◌∙◌}
use Rattle.mx_snapshot.specs.Looks.{all_now}
use Rattle.mx_pager.proofs.Firsts.{take_now}
use Rattle.mx_pager.proofs.choosing.first_of.Goals as goal

pub returns-clause-events : goal.returns-clause-events
returns-clause-events c = ap all_now c.truncate.ensures.items ∙ take_now c.args.limit c.args.made.items
