use Rattle.std.proofs.Common.{◌≡◌, ◌++◌, drop}
use Rattle.mx_snapshot.specs.Looks.{all_now, looked}
use Rattle.mx_snapshot.proofs.gather.gather.Given as goal

abbrev pub invariant-positions : goal.invariant-positions
invariant-positions g l = all_now l.made.items ++ looked l.items.items (drop l.position-index l.positions) ≡ looked l.items.items l.positions
