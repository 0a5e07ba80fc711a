use Rattle.std.proofs.Common.{◌-◌, ◌^◌, min, refl, ap, ◌∙◌, pos}
use Rattle.mx_json.specs.Numbers.{largest}
use Rattle.mx_json.specs.declared.value.Json as json
use Rattle.mx_event.specs.Forms.{with_long_ids}
use Rattle.mx_event.proofs.Measure.{one_part, whole_len, number_len_of, text_len}
use Rattle.mx_event.proofs.size.size.Goals as goal

pub returns : goal.returns
returns c =
    let e = with_long_ids c.args.event.now in
    let server = c.args.server.now in
    let content = one_part _ _ _ _ _ refl (c.member_size.ensures e.content c.size.ensures) c.saturating_add.ensures in
    let id = one_part _ _ _ _ _ content (c.member_size-2.ensures _ (c.event_id_size.ensures c.args.event.now)) c.saturating_add-2.ensures in
    let ts = one_part _ _ _ _ _ id (c.member_size-3.ensures (json.Int (pos (min e.ts largest))) (number_len_of c.min.result (min e.ts largest) c.number_size-timestamp.result c.number_size-timestamp.ensures.value c.number_size-timestamp.ensures.few c.min.ensures)) c.saturating_add-3.ensures in
    let redacts = one_part _ _ _ _ _ ts c.redacts_size.ensures c.saturating_add-size.ensures in
    let room = one_part _ _ _ _ _ redacts (c.member_size-4.ensures _ c.room_id_size.ensures) c.saturating_add-4.ensures in
    let sender = one_part _ _ _ _ _ room (c.member_size-5.ensures (json.Text e.sender) (text_len c.as_str.result.now e.sender c.text_size.result c.text_size.ensures c.as_str.ensures.text)) c.saturating_add-5.ensures in
    let key = one_part _ _ _ _ _ sender c.state_key_size.ensures c.saturating_add-6.ensures in
    let kind = one_part _ _ _ _ _ key (c.member_size-6.ensures (json.Text e.kind) (text_len c.as_str-2.result.now e.kind c.text_size-2.result c.text_size-2.ensures c.as_str-2.ensures)) c.saturating_add-7.ensures in
    kind ∙ ap (λ n. min n (2 ^ 64 - 1)) (whole_len server e)
