use Rattle.std.proofs.Common.{◌≡◌, ◌++◌, map, take, drop}
use Rattle.mx_aims.specs.Again.{unplaced}
use Rattle.mx_aims.proofs.again.unplaced.Given as goal

abbrev pub invariant-drafts : goal.invariant-drafts
invariant-drafts l = take l.draft-index l.draft-items ++ map unplaced (drop l.draft-index l.draft-items) ≡ map unplaced l.fn.drafts
