use Rattle.std.proofs.Common.{◌∙◌}
use Rattle.mx_event.proofs.Ordered.{ordered_if_put}
use Rattle.mx_pager.proofs.forms.put.Goals as goal

pub returns-clause-next : goal.returns-clause-next
returns-clause-next c =
    ordered_if_put c.push.result c.args.members.now c.push.new.self c.args.key.now c.from_string-key.result c.args.value
    (c.from_string-key.ensures ∙ c.in_ok-from_str.ensures.ok) c.push.ensures.ok c.requires
