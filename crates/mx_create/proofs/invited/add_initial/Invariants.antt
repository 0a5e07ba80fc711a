use Rattle.std.proofs.Common.{take}
use Rattle.std.specs.List.{filter_map}
use Rattle.mx_create.specs.Strangers.{Adds, invited_by}
use Rattle.mx_create.proofs.invited.add_initial.Given as goal

abbrev pub invariant-entries : goal.invariant-entries
invariant-entries l = Adds (filter_map invited_by (take l.entry-index l.entry-items)) l.initial.strangers l.strangers
