use Rattle.std.proofs.Common.{◌≡◌, ◌++◌, map, take}
use Rattle.mx_create.specs.Blocks.{creating, initial}
use Rattle.mx_create.proofs.creation.push_initial.Given as goal

abbrev pub invariant-entries : goal.invariant-entries
invariant-entries l = l.all.items ≡ l.initial.all.items ++ map (initial (creating l.by)) (take l.entry-index l.entry-items)
