use Rattle.std.proofs.Common.{sym, ◌∙◌}
use Rattle.mx_snapshot.proofs.Marks.{noted}
use Rattle.mx_snapshot.proofs.event_index.note_first.Goals as goal

pub returns-in-Some-clause-first : goal.returns-in-Some-clause-first
returns-in-Some-clause-first c =
    noted c.args.firsts.now.items c.push.new.self.items c.as_mut_slice.result.now c.note_at.new.firsts c.push.new.self.len c.in-Some.at c.args.event.now c.in_ok-push.ensures.items c.push.new.self.ok.0 c.as_mut_slice.ensures.value (sym c.target.ensures ∙ c.in-Some.is) c.note_at.ensures.marks c.note_at.ensures.first
