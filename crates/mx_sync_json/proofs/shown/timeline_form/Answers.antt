use Rattle.std.proofs.Common.{[], ◌∷◌, codes, ap, ◌∙◌}
use Rattle.mx_json.specs.declared.value.Json.TheVariants as json
use Rattle.mx_event.specs.Forms.{member}
use Rattle.mx_sync_json.proofs.Puts.{three}
use Rattle.mx_sync_json.proofs.shown.timeline_form.Goals as goal

pub returns : goal.returns
returns c =
    let part = c.args.part.now in
    let events = c.from_vec.ensures ∙ c.in_ok-events.ensures in
    ap json.Object (three (member (codes "events") (json.List c.from_vec.result)) (member (codes "limited") (json.Bool part.limited))
    (member (codes "prev_batch") (json.Text c.in_ok-prev_batch.prev_batch))
    c.new-members.result c.put.new.members c.put-2.new.members c.put-3.new.members c.new-members.ensures c.in_ok-put.ensures.put c.in_ok-put-2.ensures.put c.in_ok-put-3.ensures.put)
    ∙ (λ i. json.Object (
    member (codes "events") (json.List (events i))
    ∷ member (codes "limited") (json.Bool part.limited)
    ∷ member (codes "prev_batch") (json.Text (c.in_ok-prev_batch.ensures i))
    ∷ []))
