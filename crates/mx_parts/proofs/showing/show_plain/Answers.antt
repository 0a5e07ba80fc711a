use Rattle.mx_parts.specs.Readings.{events_of, front_of}
use Rattle.mx_parts.proofs.Shown.{shown_plain}
use Rattle.mx_parts.proofs.showing.show_plain.Goals as goal

pub returns : goal.returns
returns c =
    let v = c.args.reading.now in
    shown_plain (events_of v) (front_of v) c.args.event.now v.user.now c.in_ok-event.event c.requires.first c.in_ok-event.ensures
