use Rattle.std.proofs.Common.{sym, subst, ap, ◌∙◌, ◌≡◌, true}
use Rattle.mx_json.specs.Keys.{keys_of, are_ordered, value_at}
use Rattle.mx_json.proofs.Search.{value_found, value_absent}
use Rattle.mx_json.proofs.members.Members.get.Goals as goal

pub returns-in-Ok : goal.returns-in-Ok
returns-in-Ok g c =
    let same = c.as_slice-members.ensures.value in
    let ordered = subst (λ ms. are_ordered (keys_of ms) ≡ true) (sym same) c.as_slice-members.ensures.ordered in
    sym (value_found c.args.key.now c.as_slice-members.result.now ordered c.in-Ok.at c.index-members-at.result c.in-Ok.ensures.found) ∙ ap (value_at c.args.key.now) same

pub returns-in-Err : goal.returns-in-Err
returns-in-Err g c = sym (value_absent c.args.key.now c.as_slice-members.result.now c.in-Err.field-0 c.in-Err.ensures.parted) ∙ ap (value_at c.args.key.now) c.as_slice-members.ensures.value
