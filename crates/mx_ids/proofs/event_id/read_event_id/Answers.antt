use Rattle.mx_ids.proofs.Ids.{event_found, event_back}
use Rattle.mx_ids.proofs.event_id.read_event_id.Goals as goal

pub returns-clause-found : goal.returns-clause-found
returns-clause-found c = event_found _ _ c.event_id_of.result (rw (c.as_bytes.ensures.value, c.as_bytes-2.ensures.value) at c.event_id_of.ensures)

pub returns-clause-back : goal.returns-clause-back
returns-clause-back c = event_back _ _ c.event_id_of.result (rw (c.as_bytes.ensures.value, c.as_bytes-2.ensures.value) at c.event_id_of.ensures)
