use Rattle.std.proofs.Common.{◌≡◌, ◌+◌, [], ◌∷◌, ◌++◌, take, sym, ap, ◌∙◌, arith}
use Rattle.std.proofs.lemmas.Grind.{common_steps}
use Rattle.mx_json.specs.declared.members.Member.{Member}
use Rattle.mx_json.specs.declared.value.Json.{Json}
use Rattle.mx_json.proofs.copied.+copy.Goals as goal

pub copy_list-loop-item-preserved : goal.copy_list-loop-item-preserved
copy_list-loop-item-preserved t c =
    let l = c.loop-item in
    let items = c.as_slice-item-items.result.now in
    let item : Json = c.item-item.result in
    let more : take (l.item-index + 1) items ≡ take l.item-index items ++ item ∷ [] = grind (arith, common_steps, c.item-item.is, c.loop-item-test.true) in
    c.in_ok-push_made.ensures item c.copy_json.ensures ∙ ap (λ made. made ++ item ∷ []) l.invariant ∙ sym more

pub copy_members-loop-member-preserved : goal.copy_members-loop-member-preserved
copy_members-loop-member-preserved t c =
    let l = c.loop-member in
    let members = c.as_slice-member-items.result.now in
    let member : Member Json = c.member-item.result in
    let more : take (l.member-index + 1) members ≡ take l.member-index members ++ member ∷ [] = grind (arith, common_steps, c.member-item.is, c.loop-member-test.true) in
    c.in_ok-push_member.ensures member.value c.copy_json.ensures ∙ ap (λ made. made ++ member ∷ []) l.invariant ∙ sym more
