-- Nor does it hold anything that threads could share wrongly.
use denote.Param.Send.{IsSync, part_keyless}
use Rattle.mx_outside.specs.contracts.readings.Readings.{the_row}
use Rattle.mx_outside.proofs.readings.Readings.TheSendSync.Send.{send}

pub sync : IsSync the_row
sync = record { shared = λ d b o κ q. part_keyless the_row send q d b o }
