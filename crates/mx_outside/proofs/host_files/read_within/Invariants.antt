use Rattle.std.proofs.Common.{◌+◌, ◌-◌}
use Rattle.std.specs.Io.KnownBytes.{Consumes}
use Rattle.mx_outside.proofs.host_files.read_within.Given as goal

abbrev pub invariant-pieces : goal.invariant-pieces
invariant-pieces g l = Consumes (g.R.Read.remaining l.initial.reader) (g.R.Read.remaining l.reader) l.bytes.items

abbrev pub decreases-pieces : goal.decreases-pieces
decreases-pieces g l = l.most + 1 - l.bytes.len
