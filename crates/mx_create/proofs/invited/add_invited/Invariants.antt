use Rattle.std.proofs.Common.{take}
use Rattle.std.specs.List.{filter_map}
use Rattle.mx_json.specs.Fields.{text_of}
use Rattle.mx_create.specs.Strangers.{Adds}
use Rattle.mx_create.proofs.invited.add_invited.Given as goal

abbrev pub invariant-users : goal.invariant-users
invariant-users l = Adds (filter_map text_of (take l.user-index l.user-items)) l.initial.strangers l.strangers
