use Rattle.std.proofs.Common.{sym, ◌∙◌}
use Rattle.mx_auth.proofs.Named.{none_named}
use Rattle.mx_auth.proofs.rules.names_own.Goals as goal

pub returns-in-None : goal.returns-in-None
returns-in-None c = none_named c.args.event.now c.args.state.now.events (sym c.in-None.is ∙ c.named_id.ensures)
