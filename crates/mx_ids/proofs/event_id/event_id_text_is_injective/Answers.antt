use Rattle.mx_ids.proofs.Ids.{same_event}
use Rattle.mx_ids.proofs.event_id.event_id_text_is_injective.Goals as goal

pub returns : goal.returns
returns c = same_event
