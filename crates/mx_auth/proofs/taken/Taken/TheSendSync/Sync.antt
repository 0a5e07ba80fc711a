-- Nor does it hold anything that threads could share wrongly.
use denote.Param.Send.{IsSync, part_keyless}
use Rattle.mx_auth.specs.contracts.taken.Taken.{the_row}
use Rattle.mx_auth.proofs.taken.Taken.TheSendSync.Send.{send}

pub sync : IsSync the_row
sync = record { shared = λ d b o κ q. part_keyless the_row send q d b o }
