use Rattle.std.proofs.Common.{ap, reverse, take, ◌∙◌}
use Rattle.mx_snapshot.specs.Looks.{all_now}
use Rattle.mx_parts.proofs.Reached.{reverse_now, take_now}
use Rattle.mx_parts.proofs.latest.in_order.Goals as goal

pub returns-clause-events : goal.returns-clause-events
returns-clause-events c =
    ap all_now (c.reverse.ensures.items ∙ ap reverse c.truncate.ensures.items)
    ∙ reverse_now (take c.args.most c.args.found.items) ∙ ap reverse (take_now c.args.most c.args.found.items)
