use Rattle.std.proofs.Common.{◌≡◌, ◌++◌}
use Rattle.mx_sync_json.specs.Keyed.{members_in}
use Rattle.mx_sync_json.proofs.keyed.members_of.Given as goal

abbrev pub invariant-members : goal.invariant-members
invariant-members l =
    (goal.iterator-members).can_next l.key-iterator
    × (goal.iterator-members).is_finite l.key-iterator
    × (l.members ++ members_in l.key-iterator ≡ members_in l.fn.keyed.entries)
