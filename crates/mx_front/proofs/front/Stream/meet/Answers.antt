use Rattle.std.proofs.Common.{rules, length, max, sym, ap, ap₂, ◌∙◌}
use Rattle.mx_front.specs.Told.{can_store}
use Rattle.mx_front.proofs.Allowed.{meets_at}
use Rattle.mx_front.proofs.Meetings.{has_met, longer_count}
use Rattle.mx_front.proofs.Rights.{joined_stores}
use Rattle.mx_front.proofs.front.Stream.meet.Goals as goal

pub join_seat-requires : goal.join_seat-requires
join_seat-requires g c = (search rules, search rules, search rules, search rules, meets_at _ _ _ _ _ _)

pub invariant_of-pass : goal.invariant_of-pass
invariant_of-pass g c =
    let h = has_met g.I.Placed.lawful c.args.pass.now.seat.me _ _ c.args.other.seat.me _ c.args.pass.now.rests c.hear.ensures.seat c.hear.ensures.learned c.hear.ensures.other c.join_seat.ensures.2 in
    record {
      rests = h.rests;
      lawful = h.meets.lawful;
      orderly = h.meets.orderly;
      of_writers = h.meets.writers;
      stores_by = ap can_store h.meets.right ∙ joined_stores _ _ c.args.pass.now.stores_by;
      counted = c.max-pass.ensures ∙ (ap₂ max c.args.pass.now.counted c.args.other.counted ∙ (sym (longer_count c.args.pass.now.seat.me.0.seen c.args.other.seat.me.0.seen) ∙ sym (ap length h.meets.seen)));
    }

pub returns-clause-met : goal.returns-clause-met
returns-clause-met g c = (has_met g.I.Placed.lawful c.args.pass.now.seat.me _ _ c.args.other.seat.me _ c.args.pass.now.rests c.hear.ensures.seat c.hear.ensures.learned c.hear.ensures.other c.join_seat.ensures.2).meets
