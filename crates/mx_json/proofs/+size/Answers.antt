use Rattle.std.proofs.Common.{◌≡◌, ◌+◌, ◌-◌, ◌^◌, [], ◌∷◌, ◌++◌, take, min, length, ap, sym, ◌∙◌, arith}
use Rattle.std.proofs.lemmas.Grind.{common_steps}
use Rattle.json.specs.Print.{quoted}
use Rattle.mx_json.specs.Texts.{json_text}
use Rattle.mx_json.proofs.Sizes.{one_item, all_items, one_member, all_members}
use Rattle.mx_json.proofs.Texts.{text-List, text-Object}
use Rattle.mx_json.proofs.+size.Goals as goal

pub value::Json::size-returns-in-List : goal.value::Json::size-returns-in-List
value::Json::size-returns-in-List t c =
    c.list_size.ensures ∙ ap (λ s. min (length s) (2 ^ 64 - 1)) (sym (ap json_text c.in-List.is ∙ text-List c.in-List.items))

pub value::Json::size-returns-in-Object : goal.value::Json::size-returns-in-Object
value::Json::size-returns-in-Object t c =
    c.members_size.ensures ∙ ap (λ s. min (length s) (2 ^ 64 - 1)) (sym (ap json_text c.in-Object.is ∙ text-Object c.in-Object.members))

pub size::list_size-loop-item-preserved : goal.size::list_size-loop-item-preserved
size::list_size-loop-item-preserved t c =
    let l = c.loop-item in
    let js = c.as_slice-item-items.result.now in
    let more : take (l.item-index + 1) js ≡ take l.item-index js ++ c.item-item.result ∷ [] = grind (arith, common_steps, c.item-item.is, c.loop-item-test.true) in
    one_item js l.item-index c.item-item.result l.size c.size.result c.saturating_add.result c.saturating_add-size.result more l.invariant c.size.ensures c.saturating_add.ensures c.saturating_add-size.ensures

pub size::list_size-returns : goal.size::list_size-returns
size::list_size-returns t c =
    all_items c.args.items.now c.as_slice-item-items.result.now c.loop-item.item-index c.loop-item.size c.as_slice-item-items.ensures
    (sym c.is_empty.ensures ∙ c.if-is_empty.false) c.loop-item-test.false c.loop-item.invariant

pub size::members_size-loop-member-preserved : goal.size::members_size-loop-member-preserved
size::members_size-loop-member-preserved t c =
    let l = c.loop-member in
    let ms = c.as_slice-member-items.result.now in
    let m = c.member-item.result in
    let more : take (l.member-index + 1) ms ≡ take l.member-index ms ++ m ∷ [] = grind (arith, common_steps, c.member-item.is, c.loop-member-test.true) in
    let named = c.text_size-key.ensures ∙ ap (λ s. min (length (quoted s)) (2 ^ 64 - 1)) c.as_str.ensures in
    one_member ms l.member-index m l.size c.text_size-key.result c.saturating_add.result c.size.result c.saturating_add-in-loop-member.result c.saturating_add-size.result
    more l.invariant named c.saturating_add.ensures c.size.ensures c.saturating_add-in-loop-member.ensures c.saturating_add-size.ensures

pub size::members_size-returns : goal.size::members_size-returns
size::members_size-returns t c =
    all_members c.args.members.now c.as_slice-member-items.result.now c.loop-member.member-index c.loop-member.size c.as_slice-member-items.ensures.value
    (sym c.is_empty.ensures ∙ c.if-is_empty.false) c.loop-member-test.false c.loop-member.invariant
