-- What a client holds after the redactions that its timelines hold.
use Rattle.std.specs.Option.{option_map}
use Rattle.mx_folding.specs.Rooms.{Room}
use Rattle.mx_folding.specs.Clients.{ClientRoom, held, redacted_room}
use Rattle.mx_folding.specs.Stories.{Holding}

-- each copy is redacted that a redaction in the room's timeline names
abbrev pub room_redacted : {E K : Type 0} → Room E K → ClientRoom E K → ClientRoom E K
room_redacted r room = redacted_room r (held room.timeline) room

abbrev pub joined_redacted : {E K V : Type 0} → Room E K → ClientRoom E K × V → ClientRoom E K × V
joined_redacted r p = (room_redacted r p.0, p.1)

abbrev pub holding_redacted : {E K V : Type 0} → Room E K → Holding E K V → Holding E K V
holding_redacted r had = record { joined = option_map (joined_redacted r) had.joined; invited = had.invited }
