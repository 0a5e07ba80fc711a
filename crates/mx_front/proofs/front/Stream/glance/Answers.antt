use Rattle.std.proofs.Common.{ap, ◌∙◌, rules}
use Rattle.mx_front.specs.Told.{can_store}
use Rattle.mx_front.proofs.Allowed.{glances_at}
use Rattle.mx_front.proofs.Seats.{has_glanced}
use Rattle.mx_front.proofs.front.Stream.glance.Goals as goal

pub load-pass-requires : goal.load-pass-requires
load-pass-requires g c = (search rules, search rules, glances_at _ _ _ _ _)

pub invariant_of-pass : goal.invariant_of-pass
invariant_of-pass g c =
    let h = has_glanced _ _ _ _ c.args.pass.now.rests c.load-pass.ensures.2 in
    record { rests = h.rests; lawful = h.looks.lawful; orderly = h.looks.orderly; of_writers = h.looks.writers; stores_by = ap can_store h.looks.right ∙ c.args.pass.now.stores_by; counted = h.count }

pub returns-clause-seen : goal.returns-clause-seen
returns-clause-seen g c = (has_glanced _ _ _ _ c.args.pass.now.rests c.load-pass.ensures.2).looks
