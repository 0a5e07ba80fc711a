use Rattle.std.proofs.Common.{◌≡◌, ◌++◌, map, drop}
use Rattle.mx_sync_json.specs.Rooms.{stripped_form}
use Rattle.mx_sync_json.proofs.shown.stripped_form.Given as goal

abbrev pub invariant-events : goal.invariant-events
invariant-events l = l.made.items ++ map stripped_form (drop l.shown-index l.shown-items) ≡ map stripped_form l.shown-items
