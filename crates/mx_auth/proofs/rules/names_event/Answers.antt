use Rattle.std.proofs.Common.{sym, ◌∙◌}
use Rattle.mx_auth.proofs.Named.{nothing_named}
use Rattle.mx_auth.proofs.rules.names_event.Goals as goal

pub returns-in-None : goal.returns-in-None
returns-in-None c = nothing_named c.args.event.now c.args.state.now.events (sym c.in-None.is ∙ c.named_id.ensures)
