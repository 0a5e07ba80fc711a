use Rattle.mx_ids.proofs.Ids.{same_room}
use Rattle.mx_ids.proofs.room_id.room_id_text_is_injective.Goals as goal

pub returns : goal.returns
returns c = same_room
