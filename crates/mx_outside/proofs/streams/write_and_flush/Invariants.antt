use Rattle.std.proofs.Common.{◌-◌, ◌≤◌, length, take}
use Rattle.std.specs.Io.KnownBytes.{Appends}
use Rattle.mx_outside.proofs.streams.write_and_flush.Given as goal

abbrev pub invariant-writes : goal.invariant-writes
invariant-writes g l = record {
  within : l.done ≤ length l.bytes;
  added : Appends (g.W.Write.contents l.initial.writer) (g.W.Write.contents l.writer) (take l.done l.bytes);
}

abbrev pub decreases-writes : goal.decreases-writes
decreases-writes g l = length l.bytes - l.done
