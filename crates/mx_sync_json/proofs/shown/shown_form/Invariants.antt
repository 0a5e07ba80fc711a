use Rattle.std.proofs.Common.{◌≡◌, ◌++◌, false, map, drop}
use Rattle.mx_event.specs.Forms.{client_form}
use Rattle.mx_sync_json.proofs.shown.shown_form.Given as goal

abbrev pub invariant-events : goal.invariant-events
invariant-events l =
    l.made.items ++ map (client_form l.to.server.now false l.to.device) (drop l.shown-index l.shown-items)
    ≡ map (client_form l.to.server.now false l.to.device) l.shown-items
