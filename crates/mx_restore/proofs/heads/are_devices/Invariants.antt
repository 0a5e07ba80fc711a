use Rattle.std.proofs.Common.{◌≡◌, drop}
use Rattle.mx_restore.specs.Heads.{are_devices}
use Rattle.mx_restore.proofs.heads.are_devices.Given as goal

abbrev pub invariant-devices : goal.invariant-devices
invariant-devices l = are_devices l.users l.at (drop l.value-index l.values) ≡ are_devices l.fn.users l.fn.from l.fn.values
