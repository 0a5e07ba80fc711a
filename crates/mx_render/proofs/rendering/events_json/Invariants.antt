use Rattle.std.proofs.Common.{◌≡◌, ◌++◌, true, map, drop}
use Rattle.mx_event.specs.Forms.{client_form}
use Rattle.mx_render.proofs.rendering.events_json.Given as goal

abbrev pub invariant-events : goal.invariant-events
invariant-events l = l.forms.items ++ map (client_form l.server true l.device) (drop l.shown-index l.shown-items) ≡ map (client_form l.server true l.device) l.shown-items
