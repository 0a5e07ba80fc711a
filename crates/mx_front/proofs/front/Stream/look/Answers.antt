use Rattle.std.proofs.Common.{ap, ◌∙◌}
use Rattle.mx_front.specs.Told.{can_store}
use Rattle.mx_front.proofs.Seats.{has_looked, shows, counted_look}
use Rattle.mx_front.proofs.front.Stream.look.Goals as goal

pub invariant_of-pass : goal.invariant_of-pass
invariant_of-pass g c =
    let h = has_looked _ _ _ _ _ _ c.seize-owed.ensures.seized c.read_parts-parts.ensures.grown c.leave.ensures.left in
    record { rests = h.rests; lawful = h.looks.lawful; orderly = h.looks.orderly; of_writers = h.looks.writers; stores_by = ap can_store h.looks.right ∙ c.args.pass.now.stores_by; counted = counted_look _ _ _ _ c.read_parts-parts.ensures.grown c.leave.ensures.left c.seize-owed.ensures.count }

pub returns-clause-seen : goal.returns-clause-seen
returns-clause-seen g c = (has_looked _ _ _ _ _ _ c.seize-owed.ensures.seized c.read_parts-parts.ensures.grown c.leave.ensures.left).looks

pub returns-clause-parts : goal.returns-clause-parts
returns-clause-parts g c = shows _ _ _ _ _ _ c.seize-owed.ensures.seized c.read_parts-parts.ensures.grown c.leave.ensures.left _ c.read_parts-parts.ensures.parts
