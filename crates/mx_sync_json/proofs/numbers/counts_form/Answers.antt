use Rattle.std.proofs.Common.{[], ◌∷◌, codes, ap, ◌∙◌}
use Rattle.mx_json.specs.declared.value.Json.TheVariants as json
use Rattle.mx_event.specs.Forms.{member}
use Rattle.mx_sync_json.proofs.Puts.{two}
use Rattle.mx_sync_json.proofs.numbers.counts_form.Goals as goal

pub returns : goal.returns
returns c =
    ap json.Object (two (member (codes "highlight_count") c.number.result) (member (codes "notification_count") c.number-2.result)
    c.new-members.result c.put.new.members c.put-2.new.members c.new-members.ensures c.in_ok-put.ensures.put c.in_ok-put-2.ensures.put)
    ∙ (λ i. json.Object (member (codes "highlight_count") (c.number.ensures i) ∷ member (codes "notification_count") (c.number-2.ensures i) ∷ []))
