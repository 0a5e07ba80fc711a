use Rattle.std.proofs.Common.{rules, sym, ◌∙◌}
use Rattle.mx_json.proofs.Search.{set_at_place, insert_at_place, in_order, in_order_after}
use Rattle.mx_json.proofs.members.Members.set.Goals as goal

pub returns-in-Ok-clause-ok : goal.returns-in-Ok-clause-ok
returns-in-Ok-clause-ok g c =
    c.set.ensures ∙ set_at_place c.as_str.result.now c.args.key c.args.value c.as_slice.result.now c.self.inside.entries c.args.self.now c.in-Ok.at c.as_str.ensures c.as_slice.ensures.value c.self.view_is c.self.invariant c.in-Ok.ensures.found

pub returns-in-Err-clause-ok : goal.returns-in-Err-clause-ok
returns-in-Err-clause-ok g c =
    let is = insert_at_place c.as_str.result.now c.args.key c.args.value c.as_slice.result.now c.self.inside.entries c.args.self.now c.in-Err.at c.as_str.ensures c.as_slice.ensures.value c.self.view_is c.in-Err.ensures.parted in
    search (rules, is)

pub invariant_of-self : goal.invariant_of-self
invariant_of-self g c =
    in_order c.args.key c.args.value c.set.new.self c.self.inside.entries c.self.invariant
    (c.set.ensures ∙ set_at_place c.as_str.result.now c.args.key c.args.value c.as_slice.result.now c.self.inside.entries c.self.inside.entries c.in-Ok.at c.as_str.ensures (c.as_slice.ensures.value ∙ sym c.self.view_is) (λ i. c.self.inside.entries) c.self.invariant c.in-Ok.ensures.found)

pub invariant_of-self-in-Err : goal.invariant_of-self-in-Err
invariant_of-self-in-Err g c =
    let is = insert_at_place c.as_str.result.now c.args.key c.args.value c.as_slice.result.now c.self.inside.entries c.self.inside.entries c.in-Err.at c.as_str.ensures (c.as_slice.ensures.value ∙ sym c.self.view_is) (λ i. c.self.inside.entries) c.in-Err.ensures.parted in
    in_order_after c.args.key c.args.value c.insert.new.self c.self.inside.entries c.insert.result c.self.invariant (search (rules, is)) c.insert.ensures.same
