use Rattle.std.proofs.Common.{[], ◌∷◌, codes, ap, ◌∙◌}
use Rattle.mx_json.specs.declared.value.Json.TheVariants as json
use Rattle.mx_event.specs.Forms.{member}
use Rattle.mx_sync_json.proofs.Puts.{three}
use Rattle.mx_sync_json.proofs.writing.put_reply.Goals as goal

pub returns : goal.returns
returns c =
    ap json.Object (three (member (codes "account_data") c.in_ok-account.account) (member (codes "next_batch") (json.Text c.in_ok-next_batch.next_batch))
    (member (codes "rooms") c.in_ok-rooms.rooms)
    c.args.members.now c.put.new.members c.put-2.new.members c.put-3.new.members c.requires c.in_ok-put.ensures.put c.in_ok-put-2.ensures.put c.in_ok-put-3.ensures.put)
    ∙ (λ i. json.Object (
    member (codes "account_data") (c.in_ok-account.ensures i)
    ∷ member (codes "next_batch") (json.Text (c.in_ok-next_batch.ensures i))
    ∷ member (codes "rooms") (c.in_ok-rooms.ensures i)
    ∷ []))
