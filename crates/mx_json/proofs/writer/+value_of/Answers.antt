use Rattle.std.proofs.Common.{◌≡◌, ◌+◌, [], ◌∷◌, ◌++◌, take, map, ap, ◌∙◌, arith}
use Rattle.std.proofs.lemmas.Grind.{common_steps}
use Rattle.serde_json.proofs.Views.{view-Array, view-Object}
use Rattle.serde_json.specs.Data.{array, object}
use Rattle.serde_json.specs.View.{items_of}
use Rattle.mx_json.specs.Keys.{keys_of, are_ordered}
use Rattle.mx_json.specs.declared.value.Json.{Json}
use Rattle.mx_json.specs.Values.{data_of, members_data}
use Rattle.mx_json.proofs.Order.{mapped_on, put_next}
use Rattle.mx_json.proofs.writer.+value_of.Goals as goal

pub object_of-loop-member-preserved : goal.object_of-loop-member-preserved
object_of-loop-member-preserved t c =
    let l = c.loop-member in
    let ms = c.as_slice-member-items.result.now in
    let m = c.member-item.result in
    let more : take (l.member-index + 1) ms ≡ take l.member-index ms ++ m ∷ [] = grind (arith, common_steps, c.member-item.is, c.loop-member-test.true) in
    let order = ap (λ x. are_ordered (keys_of x)) c.as_slice-member-items.ensures.value ∙ c.as_slice-member-items.ensures.ordered in
    c.in_ok-insert_value.ensures (data_of m.value) c.value_of.ensures ∙ rw (l.invariant) (put_next ms l.member-index m more order)

pub array_of-loop-item-preserved : goal.array_of-loop-item-preserved
array_of-loop-item-preserved t c =
    let l = c.loop-item in
    let items = c.as_slice-item-items.result.now in
    let item : Json = c.item-item.result in
    let more : take (l.item-index + 1) items ≡ take l.item-index items ++ item ∷ [] = grind (arith, common_steps, c.item-item.is, c.loop-item-test.true) in
    mapped_on data_of items l.item-index item _ _ more l.invariant (c.in_ok-push_value.ensures (data_of item) c.value_of.ensures)

pub array_of-returns : goal.array_of-returns
array_of-returns t c =
    let l = c.loop-item in
    let items = c.as_slice-item-items.result.now in
    let whole : take l.item-index items ≡ items = grind (arith, common_steps, c.loop-item-test.false) in
    view-Array l.values ∙ ap (λ ds. array (items_of ds)) (l.invariant ∙ ap (map data_of) (whole ∙ c.as_slice-item-items.ensures))

pub object_of-returns : goal.object_of-returns
object_of-returns t c =
    let l = c.loop-member in
    let members = c.as_slice-member-items.result.now in
    let whole : take l.member-index members ≡ members = grind (arith, common_steps, c.loop-member-test.false) in
    view-Object l.map ∙ ap object (l.invariant ∙ ap members_data (whole ∙ c.as_slice-member-items.ensures.value))
