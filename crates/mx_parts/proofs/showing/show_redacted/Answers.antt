use Rattle.std.proofs.Common.{Some, None, cond, ap, ◌∙◌}
use Rattle.mx_event.specs.Shown.{shown}
use Rattle.mx_parts.specs.Readings.{events_of, front_of}
use Rattle.mx_parts.proofs.Shown.{shown_redacted}
use Rattle.mx_parts.proofs.showing.show_redacted.Goals as goal

pub returns : goal.returns
returns c =
    let v = c.args.reading.now in
    shown_redacted (events_of v) (front_of v) c.args.event.now v.user.now c.args.by.now c.in_ok-event.event c.in_ok-because.because c.requires.first c.in_ok-event.ensures
    (c.in_ok-because.ensures ∙ ap (λ b. cond b (Some (shown (events_of v) c.args.by.now (front_of v))) None) c.sees-seen.ensures)
