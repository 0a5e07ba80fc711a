use Rattle.std.proofs.Common.{◌≡◌, ◌+◌, ◌==◌, length}
use Rattle.std.specs.List.{slice_split}
use Rattle.mx_users.specs.UsersFile.{users_of_lines}
use Rattle.mx_users.proofs.users_file.skip_empty.Given as goal

abbrev pub invariant-lines : goal.invariant-lines
invariant-lines l =
    (users_of_lines 0 (slice_split (λ c. c == 10) l.bytes) ≡ users_of_lines l.before (slice_split (λ c. c == 10) l.rest))
    × (l.before + length l.rest ≡ length l.bytes)

abbrev pub decreases-lines : goal.decreases-lines
decreases-lines l = length l.rest
