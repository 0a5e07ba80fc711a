use Rattle.std.proofs.Common.{take}
use Rattle.mx_snapshot.specs.Accounts.{IsIndexed}
use Rattle.mx_snapshot.proofs.accounts.index_after.Given as goal

abbrev pub invariant-entries : goal.invariant-entries
invariant-entries l = IsIndexed l.index (take l.position l.entries.items)
