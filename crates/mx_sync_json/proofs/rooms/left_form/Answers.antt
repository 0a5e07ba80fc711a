use Rattle.std.proofs.Common.{[], ◌∷◌, List, ℕ, codes, ap, ◌∙◌}
use Rattle.std.specs.Cmp.Lexicographic.{slice_cmp}
use Rattle.std.specs.Ordering.{is_lt, nat_cmp}
use Rattle.mx_json.specs.declared.value.Json.TheVariants as json
use Rattle.mx_event.specs.Forms.{member}
use Rattle.mx_sync_json.proofs.Named.{before_timeline}
use Rattle.mx_sync_json.proofs.Puts.{two}
use Rattle.mx_sync_json.proofs.rooms.left_form.Goals as goal

pub put-requires-2 : goal.put-requires-2
put-requires-2 c =
    c.in_ok-put.ensures.next (codes "timeline")
    (ap (λ (k : List ℕ). is_lt (slice_cmp nat_cmp k (codes "timeline"))) c.state_name.ensures ∙ before_timeline c.args.room.now.after)

pub returns : goal.returns
returns c =
    ap json.Object (two (member c.state_name.result.now c.in_ok-state.state) (member (codes "timeline") c.in_ok-timeline.timeline)
    c.new-members.result c.put.new.members c.put-2.new.members c.new-members.ensures c.in_ok-put.ensures.put c.in_ok-put-2.ensures.put)
    ∙ (λ i. json.Object (member (c.state_name.ensures i) (c.in_ok-state.ensures i) ∷ member (codes "timeline") (c.in_ok-timeline.ensures i) ∷ []))
