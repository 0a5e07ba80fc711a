use Rattle.mx_snapshot.proofs.Grown.{next_indexed}
use Rattle.mx_snapshot.proofs.event_index.EventIndex.take_in.Goals as goal

pub returns : goal.returns
returns c = λ es was. next_indexed c.args.self.now _ es c.args.event.now c.in_ok-add_to_room.ensures c.in_ok-note_member.ensures c.in_ok-note_state.ensures c.in_ok-note_version.ensures c.in_ok-note_own.ensures c.in_ok-note_first.ensures.first c.in_ok-note_first.ensures.marks was
