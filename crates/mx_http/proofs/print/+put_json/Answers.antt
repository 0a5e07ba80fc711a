use Rattle.std.proofs.Common.{◌+◌, ◌∷◌, ◌++◌, [], true, false, drop, ap, sym, ◌∙◌, refl, ℕ, List}
use Rattle.std.proofs.lemmas.Result.{err_from_is_err_and}
use Rattle.mx_json.specs.Texts.{json_text, list_text, object_text}
use Rattle.mx_json.specs.declared.members.Member.{Member}
use Rattle.mx_json.specs.declared.value.Json.{Json}
use Rattle.mx_json.proofs.Texts.{text-List, text-Object}
use Rattle.mx_http.specs.Stages.{state_of}
use Rattle.mx_http.proofs.Compact.{items_left, items_end, key_text, members_left, members_end}
use Rattle.mx_http.proofs.Stages.{stops_early, leaves_same, leaves_less, leaves_stop, leaves_last}
use Rattle.mx_http.proofs.print.+put_json.Goals as goal

pub put_json-returns-in-List : goal.put_json-returns-in-List
put_json-returns-in-List g t c =
    let text = ap json_text c.in-List.is ∙ text-List c.in-List.items in
    rw text c.put_list.ensures

pub put_json-returns-in-Object : goal.put_json-returns-in-Object
put_json-returns-in-Object g t c =
    let text = ap json_text c.in-Object.is ∙ text-Object c.in-Object.members in
    rw text c.put_object.ensures

pub put_list-returns-in_err-put : goal.put_list-returns-in_err-put
put_list-returns-in_err-put g t c =
    let failed = err_from_is_err_and c.from_residual.result c.from_residual.ensures.1 in
    rw failed.1 (stops_early _ _ (91 ∷ []) (list_text false c.args.items.now) _ c.in_err-put.ensures refl)

pub put_list-returns-in_err-put-2 : goal.put_list-returns-in_err-put-2
put_list-returns-in_err-put-2 g t c =
    let failed = err_from_is_err_and c.from_residual-in_err-put-2.result c.from_residual-in_err-put-2.ensures.1 in
    let shown = c.as_slice-item-items.result.now in
    let l = c.items in
    let whole = ap (λ (js : List Json). 91 ∷ list_text false js) c.as_slice-item-items.ensures in
    let part = leaves_same _ _ _ _ (list_text l.later (drop l.item-index shown)) _ l.invariant refl whole in
    let more = json_text c.item-item.result ++ list_text true (drop (l.item-index + 1) shown) in
    let cut = items_left l.later shown l.item-index c.item-item.result c.items-test.true c.item-item.is ∙ ap (λ (s : List ℕ). s ++ more) (sym c.comma.ensures) in
    rw failed.1 (leaves_stop _ _ _ _ _ more _ part c.in_err-put-2.ensures cut)

pub put_list-returns-in_err-put_json : goal.put_list-returns-in_err-put_json
put_list-returns-in_err-put_json g t c =
    let failed = err_from_is_err_and c.from_residual-in_err-put_json.result c.from_residual-in_err-put_json.ensures.1 in
    let shown = c.as_slice-item-items.result.now in
    let l = c.items in
    let whole = ap (λ (js : List Json). 91 ∷ list_text false js) c.as_slice-item-items.ensures in
    let part = leaves_same _ _ _ _ (list_text l.later (drop l.item-index shown)) _ l.invariant refl whole in
    let rest = list_text true (drop (l.item-index + 1) shown) in
    let more = json_text c.item-item.result ++ rest in
    let cut = items_left l.later shown l.item-index c.item-item.result c.items-test.true c.item-item.is ∙ ap (λ (s : List ℕ). s ++ more) (sym c.comma.ensures) in
    let before = leaves_less _ _ _ _ _ more _ part c.in_ok-put-2.ensures cut in
    rw failed.1 (leaves_stop _ _ _ _ _ rest _ before c.in_err-put_json.ensures refl)

pub put_list-items-preserved : goal.put_list-items-preserved
put_list-items-preserved g t c =
    let shown = c.as_slice-item-items.result.now in
    let l = c.items in
    let rest = list_text true (drop (l.item-index + 1) shown) in
    let more = json_text c.item-item.result ++ rest in
    let cut = items_left l.later shown l.item-index c.item-item.result c.items-test.true c.item-item.is ∙ ap (λ (s : List ℕ). s ++ more) (sym c.comma.ensures) in
    let before = leaves_less _ _ _ _ _ more _ l.invariant c.in_ok-put-2.ensures cut in
    leaves_less _ _ _ _ _ rest _ before c.in_ok-put_json.ensures refl

pub put_list-returns : goal.put_list-returns
put_list-returns g t c =
    let shown = c.as_slice-item-items.result.now in
    let l = c.items in
    let whole = ap (λ (js : List Json). 91 ∷ list_text false js) c.as_slice-item-items.ensures in
    let part = leaves_same _ _ _ _ (93 ∷ []) _ l.invariant (items_end l.later shown l.item-index c.items-test.false) whole in
    leaves_last _ _ c.put-2.result (state_of g.K.Sink.written g.K.Sink.faults c.put-2.new.sink c.put-2.new.stage) _ _ part c.put-2.ensures

pub put_object-returns-in_err-put : goal.put_object-returns-in_err-put
put_object-returns-in_err-put g t c =
    let failed = err_from_is_err_and c.from_residual.result c.from_residual.ensures.1 in
    rw failed.1 (stops_early _ _ (123 ∷ []) (object_text false c.args.members.now) _ c.in_err-put.ensures refl)

pub put_object-returns-in_err-put_key : goal.put_object-returns-in_err-put_key
put_object-returns-in_err-put_key g t c =
    let failed = err_from_is_err_and c.from_residual-in_err-put_key.result c.from_residual-in_err-put_key.ensures.1 in
    let shown = c.as_slice-member-items.result.now in
    let l = c.members in
    let m = c.member-item.result in
    let whole = ap (λ (ms : List (Member Json)). 123 ∷ object_text false ms) c.as_slice-member-items.ensures.value in
    let part = leaves_same _ _ _ _ (object_text l.later (drop l.member-index shown)) _ l.invariant refl whole in
    let more = json_text m.value ++ object_text true (drop (l.member-index + 1) shown) in
    let cut = members_left l.later shown l.member-index m c.members-test.true c.member-item.is ∙ ap (λ (k : List ℕ). key_text l.later k ++ more) (sym c.as_str.ensures) in
    rw failed.1 (leaves_stop _ _ _ _ _ more _ part c.in_err-put_key.ensures cut)

pub put_object-returns-in_err-put_json : goal.put_object-returns-in_err-put_json
put_object-returns-in_err-put_json g t c =
    let failed = err_from_is_err_and c.from_residual-in_err-put_json.result c.from_residual-in_err-put_json.ensures.1 in
    let shown = c.as_slice-member-items.result.now in
    let l = c.members in
    let m = c.member-item.result in
    let whole = ap (λ (ms : List (Member Json)). 123 ∷ object_text false ms) c.as_slice-member-items.ensures.value in
    let part = leaves_same _ _ _ _ (object_text l.later (drop l.member-index shown)) _ l.invariant refl whole in
    let rest = object_text true (drop (l.member-index + 1) shown) in
    let more = json_text m.value ++ rest in
    let cut = members_left l.later shown l.member-index m c.members-test.true c.member-item.is ∙ ap (λ (k : List ℕ). key_text l.later k ++ more) (sym c.as_str.ensures) in
    let before = leaves_less _ _ _ _ _ more _ part c.in_ok-put_key.ensures cut in
    rw failed.1 (leaves_stop _ _ _ _ _ rest _ before c.in_err-put_json.ensures refl)

pub put_object-members-preserved : goal.put_object-members-preserved
put_object-members-preserved g t c =
    let shown = c.as_slice-member-items.result.now in
    let l = c.members in
    let m = c.member-item.result in
    let rest = object_text true (drop (l.member-index + 1) shown) in
    let more = json_text m.value ++ rest in
    let cut = members_left l.later shown l.member-index m c.members-test.true c.member-item.is ∙ ap (λ (k : List ℕ). key_text l.later k ++ more) (sym c.as_str.ensures) in
    let before = leaves_less _ _ _ _ _ more _ l.invariant c.in_ok-put_key.ensures cut in
    leaves_less _ _ _ _ _ rest _ before c.in_ok-put_json.ensures refl

pub put_object-returns : goal.put_object-returns
put_object-returns g t c =
    let shown = c.as_slice-member-items.result.now in
    let l = c.members in
    let whole = ap (λ (ms : List (Member Json)). 123 ∷ object_text false ms) c.as_slice-member-items.ensures.value in
    let part = leaves_same _ _ _ _ (125 ∷ []) _ l.invariant (members_end l.later shown l.member-index c.members-test.false) whole in
    leaves_last _ _ c.put-2.result (state_of g.K.Sink.written g.K.Sink.faults c.put-2.new.sink c.put-2.new.stage) _ _ part c.put-2.ensures
