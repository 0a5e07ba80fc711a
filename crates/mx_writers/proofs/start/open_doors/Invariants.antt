use Rattle.std.proofs.Common.{◌≡◌, ◌≤◌, length}
use Rattle.std.specs.Vec.{vec_len, vec_capacity}
use Rattle.mx_writers.proofs.start.open_doors.Given as goal

abbrev pub invariant-doors : goal.invariant-doors
invariant-doors l = record {
  filled : length l.doors.items ≡ l._index;
  count : vec_len l.doors ≡ l._index;
  space : l.count ≤ vec_capacity l.doors;
}
