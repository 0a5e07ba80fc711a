use Rattle.mx_event.proofs.Measure.{event_id_len}
use Rattle.mx_event.proofs.size.event_id_size.Goals as goal

pub returns : goal.returns
returns c = λ e. event_id_len c.args.server.now c.saturating_add.result c.text_size.result c.text_size.ensures c.saturating_add.ensures
