use Rattle.std.proofs.Common.{◌≡◌, length}
use Rattle.std.specs.List.{list_all}
use Rattle.mx_create.specs.Admitted.{is_unplaced}
use Rattle.mx_aims.proofs.again.are_unplaced.Given as goal

abbrev pub invariant-drafts : goal.invariant-drafts
invariant-drafts l = list_all is_unplaced l.rest ≡ list_all is_unplaced l.drafts

abbrev pub decreases-drafts : goal.decreases-drafts
decreases-drafts l = length l.rest
