use Rattle.std.proofs.Common.{◌≡◌, ◌++◌, map}
use Rattle.mx_account.specs.Entries.{pair_now}
use Rattle.mx_account.proofs.account_data.copies.Given as goal

abbrev pub invariant-types : goal.invariant-types
invariant-types l =
    (goal.iterator-types).can_next l.kind-iterator
    × (goal.iterator-types).is_finite l.kind-iterator
    × (l.made.items ++ map pair_now l.kind-iterator ≡ map pair_now l.fn.latest.entries)
