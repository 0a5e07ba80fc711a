use Rattle.mx_ids.proofs.Ids.{room_found, room_back}
use Rattle.mx_ids.proofs.room_id.read_room_id.Goals as goal

pub returns-clause-found : goal.returns-clause-found
returns-clause-found c = room_found _ _ c.room_id_of.result (rw (c.as_bytes.ensures.value, c.as_bytes-2.ensures.value) at c.room_id_of.ensures)

pub returns-clause-back : goal.returns-clause-back
returns-clause-back c = room_back _ _ c.room_id_of.result (rw (c.as_bytes.ensures.value, c.as_bytes-2.ensures.value) at c.room_id_of.ensures)
