use Rattle.mx_json.specs.Keys.{keys_of}
use Rattle.mx_event.proofs.Ordered.{ordered_skip}
use Rattle.mx_pager.proofs.forms.put_if.Goals as goal

pub returns-in-None-clause-next : goal.returns-in-None-clause-next
returns-in-None-clause-next c = λ k less. ordered_skip (keys_of c.args.members.now) c.args.key.now k c.requires less
