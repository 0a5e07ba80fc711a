use Rattle.std.proofs.Common.{◌++◌, ap, ◌∙◌}
use Rattle.std.proofs.lemmas.Result.{on_ok_weaker}
use Rattle.mx_json.specs.declared.value.Json as json
use Rattle.mx_event.proofs.Ordered.{joined, formed}
use Rattle.mx_event.proofs.forms.put_event.Goals as goal

pub returns-clause-put : goal.returns-clause-put
returns-clause-put c = on_ok_weaker c.put-5.result (λ is last.
    joined _ _ _ _ _ _ _ _ last _ _ _ _ _ _ _ _ _
    c.in_ok-put.ensures.put c.in_ok-put-2.ensures.put c.in_ok-put-3.ensures.put c.in_ok-put_if.ensures.put c.in_ok-put_if-2.ensures.put c.in_ok-put-4.ensures.put c.in_ok-put_if-3.ensures.put is
    ∙ ap (λ ms. c.args.members.now ++ ms) (formed c.args.server.now c.args.with_room last c.args.event.now _ _ _ _ _ _ _ _
    c.in_ok-copy.ensures c.in_ok-event_id.ensures c.timestamp.ensures c.in_ok-redacts.ensures c.in_ok-room.ensures (ap json.Text (c.in_ok-sender.ensures ∙ c.as_text.ensures.text)) c.in_ok-state_key.ensures (ap json.Text c.in_ok-copy-2.ensures))) c.put-5.ensures.put
