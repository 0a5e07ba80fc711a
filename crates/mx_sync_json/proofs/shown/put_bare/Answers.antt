use Rattle.std.proofs.Common.{[], ◌∷◌, codes, ap, ◌∙◌}
use Rattle.mx_json.specs.declared.value.Json.TheVariants as json
use Rattle.mx_event.specs.Forms.{member}
use Rattle.mx_sync_json.proofs.Puts.{four}
use Rattle.mx_sync_json.proofs.shown.put_bare.Goals as goal

pub returns : goal.returns
returns c =
    let sender = c.in_ok-sender.ensures ∙ c.as_text.ensures.text in
    ap json.Object (four (member (codes "content") c.in_ok-content.content) (member (codes "sender") (json.Text c.in_ok-sender.sender))
    (member (codes "state_key") (json.Text c.in_ok-key.key))
    (member (codes "type") (json.Text c.in_ok-kind.kind))
    c.args.members.now c.put.new.members c.put-2.new.members c.put-3.new.members c.put-4.new.members
    c.requires c.in_ok-put.ensures.put c.in_ok-put-2.ensures.put c.in_ok-put-3.ensures.put c.in_ok-put-4.ensures.put)
    ∙ (λ i. json.Object (
    member (codes "content") (c.in_ok-content.ensures i)
    ∷ member (codes "sender") (json.Text (sender i))
    ∷ member (codes "state_key") (json.Text (c.in_ok-key.ensures i))
    ∷ member (codes "type") (json.Text (c.in_ok-kind.ensures i))
    ∷ []))
