use Rattle.std.proofs.Common.{◌≡◌, ◌++◌, map, take}
use Rattle.std.specs.List.{filter_map}
use Rattle.mx_json.specs.Fields.{text_of}
use Rattle.mx_create.specs.Blocks.{creating, invitation}
use Rattle.mx_create.proofs.creation.push_invitations.Given as goal

abbrev pub invariant-users : goal.invariant-users
invariant-users l = l.all.items ≡ l.initial.all.items ++ map (invitation (creating l.by) l.ask) (filter_map text_of (take l.user-index l.user-items))
