use Rattle.std.proofs.Common.{◌++◌, codes, ap, ap₂, ◌∙◌}
use Rattle.mx_json.specs.declared.value.Json as json
use Rattle.mx_event.specs.Forms.{event_with, member_if}
use Rattle.mx_event.proofs.forms.event_form.Goals as goal

pub returns : goal.returns
returns c =
    ap json.Object (c.in_ok-put_if.ensures.put ∙ c.in_ok-put_event.ensures.put (member_if (codes "unsigned") c.unless_empty.result)
    ∙ ap₂ (λ ms o. ms ++ event_with c.args.server.now c.args.with_room (member_if (codes "unsigned") o) c.args.event.now) c.new-members.ensures c.unless_empty.ensures)
