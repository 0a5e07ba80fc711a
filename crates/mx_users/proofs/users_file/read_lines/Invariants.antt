use Rattle.std.proofs.Common.{◌≡◌, ◌+◌, ◌≤◌, ◌==◌, length}
use Rattle.std.specs.List.{slice_split}
use Rattle.mx_users.specs.UsersFile.{with_lines}
use Rattle.mx_users.proofs.users_file.read_lines.Given as goal

abbrev pub invariant-lines : goal.invariant-lines
invariant-lines l =
    (with_lines l.list.users l.before (slice_split (λ c. c == 10) l.rest) ≡ with_lines l.initial.list.users l.initial.before (slice_split (λ c. c == 10) l.bytes))
    × (l.before + length l.rest ≤ l.initial.before + length l.bytes)

abbrev pub decreases-lines : goal.decreases-lines
decreases-lines l = length l.rest
