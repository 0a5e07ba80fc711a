use Rattle.std.proofs.Common.{◌≡◌, ◌++◌}
use Rattle.mx_snapshot.specs.LastVersions.{key_lasts}
use Rattle.mx_snapshot.proofs.last_versions.push_kind.Given as goal

abbrev pub invariant-keys : goal.invariant-keys
invariant-keys l = l.found.items ++ key_lasts l.last l.entry-iterator ≡ l.fn.found.items ++ key_lasts l.last l.keys.entries
