use Rattle.std.proofs.Common.{◌≡◌, drop, fold}
use Rattle.mx_create.specs.Contents.{with_one, with_all}
use Rattle.mx_create.proofs.contents.set_all.Given as goal

abbrev pub invariant-others : goal.invariant-others
invariant-others l = fold with_one l.members (drop l.other-index l.other-items) ≡ with_all l.initial.members l.other-items
