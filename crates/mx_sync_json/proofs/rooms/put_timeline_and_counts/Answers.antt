use Rattle.std.proofs.Common.{[], ◌∷◌, ◌++◌, List, codes, ap, ◌∙◌}
use Rattle.mx_json.specs.Keys.{are_ordered, keys_of}
use Rattle.mx_json.specs.declared.members.Member.{Member}
use Rattle.mx_json.specs.declared.value.Json.{Json}
use Rattle.mx_json.specs.declared.value.Json.TheVariants as json
use Rattle.mx_event.specs.Forms.{member}
use Rattle.mx_sync_json.specs.Objects.{counts_form, summary_form}
use Rattle.mx_sync_json.specs.Rooms.{data_and_state}
use Rattle.mx_sync_json.proofs.Named.{summary_next}
use Rattle.mx_sync_json.proofs.Puts.{three_more}
use Rattle.mx_sync_json.proofs.rooms.put_timeline_and_counts.Goals as goal

pub put-requires : goal.put-requires
put-requires c =
    let to = c.args.to.now in
    ap (λ (ms : List (Member Json)). are_ordered (keys_of ms ++ codes "summary" ∷ [])) c.requires
    ∙ summary_next to.server.now to.device to.front c.args.room.now

pub returns : goal.returns
returns c =
    let to = c.args.to.now in
    let before = data_and_state to.server.now to.device to.front c.args.room.now in
    let summary = c.in_ok-summary.ensures ∙ ap summary_form c.summary_of.ensures in
    let unread = c.in_ok-unread.ensures ∙ ap counts_form c.counts_of.ensures in
    ap json.Object (three_more before (member (codes "summary") c.in_ok-summary.summary) (member (codes "timeline") c.in_ok-timeline.timeline)
    (member (codes "unread_notifications") c.in_ok-unread.unread)
    c.args.members.now c.put.new.members c.put-2.new.members c.put-3.new.members c.requires c.in_ok-put.ensures.put c.in_ok-put-2.ensures.put c.in_ok-put-3.ensures.put)
    ∙ (λ i. json.Object (((before ++ member (codes "summary") (summary i) ∷ []) ++ member (codes "timeline") (c.in_ok-timeline.ensures i) ∷ [])
    ++ member (codes "unread_notifications") (unread i) ∷ []))
