use Rattle.std.proofs.Common.{[], ◌∷◌, codes, ap, ◌∙◌}
use Rattle.mx_json.specs.declared.value.Json.TheVariants as json
use Rattle.mx_event.specs.Forms.{member}
use Rattle.mx_sync_json.proofs.Puts.{three}
use Rattle.mx_sync_json.proofs.writing.put_rooms.Goals as goal

pub returns : goal.returns
returns c =
    ap json.Object (three (member (codes "invite") (json.Object c.in_ok-invited.invited)) (member (codes "join") (json.Object c.in_ok-joined.joined))
    (member (codes "leave") (json.Object c.in_ok-left.left))
    c.args.members.now c.put.new.members c.put-2.new.members c.put-3.new.members c.requires c.in_ok-put.ensures.put c.in_ok-put-2.ensures.put c.in_ok-put-3.ensures.put)
    ∙ (λ i. json.Object (
    member (codes "invite") (json.Object (c.in_ok-invited.ensures i))
    ∷ member (codes "join") (json.Object (c.in_ok-joined.ensures i))
    ∷ member (codes "leave") (json.Object (c.in_ok-left.ensures i))
    ∷ []))
