use Rattle.std.proofs.Common.{rules, length, max, sym, ap, ap₂, ◌∙◌}
use Rattle.mx_front.specs.Told.{can_store}
use Rattle.mx_front.proofs.Allowed.{parts_at, meets_at}
use Rattle.mx_front.proofs.Meetings.{has_noted, longer_count}
use Rattle.mx_front.proofs.front.Stream.note.Goals as goal

pub split_seat-told-requires : goal.split_seat-told-requires
split_seat-told-requires g c = (search rules, search rules, parts_at _ _ _ _)

pub join_seat-requires : goal.join_seat-requires
join_seat-requires g c = (search rules, search rules, search rules, search rules, meets_at _ _ _ _ _ _)

pub returns-clause-noted : goal.returns-clause-noted
returns-clause-noted g c =
    (has_noted _ _ _ _ _ _ _ _ _ _ c.hear.ensures.other c.hear.ensures.seat c.hear.ensures.learned c.hear-2.ensures.seat c.hear-2.ensures.learned c.hear-2.ensures.other c.split_seat-told.ensures.4 c.join_seat.ensures.2
    c.args.pen.now.complete c.args.pen.now.writes c.args.pen.now.lawful c.args.pass.now.lawful).notes

pub invariant_of-pass : goal.invariant_of-pass
invariant_of-pass g c =
    let n = has_noted g.I.Placed.lawful c.args.pen.now.writer c.args.pen.now.seat.me _ _ c.args.pass.now.seat.me _ _ _ _ c.hear.ensures.other c.hear.ensures.seat c.hear.ensures.learned c.hear-2.ensures.seat c.hear-2.ensures.learned
    c.hear-2.ensures.other c.split_seat-told.ensures.4 c.join_seat.ensures.2 c.args.pen.now.complete c.args.pen.now.writes c.args.pen.now.lawful c.args.pass.now.lawful in
    record {
      rests = (n.rests.0 ∙ c.args.pass.now.rests.0, n.rests.1 ∙ c.args.pass.now.rests.1);
      lawful = n.notes.lawful;
      orderly = n.notes.orderly;
      of_writers = n.notes.writers;
      stores_by = ap can_store n.notes.right ∙ c.args.pass.now.stores_by;
      counted = c.max-pass.ensures ∙ (ap₂ max c.args.pass.now.counted c.args.pen.now.counted ∙ (sym (longer_count c.args.pass.now.seat.me.0.seen c.args.pen.now.seat.me.0.seen) ∙ sym (ap length n.longer_is)));
    }
