use Rattle.std.proofs.Common.{◌≡◌, ◌++◌}
use Rattle.mx_snapshot.specs.LastVersions.{key_tops}
use Rattle.mx_snapshot.proofs.account_index.push_tops.Given as goal

abbrev pub invariant-keys : goal.invariant-keys
invariant-keys l = l.found.items ++ key_tops l.entry-iterator ≡ l.fn.found.items ++ key_tops l.keys.entries
