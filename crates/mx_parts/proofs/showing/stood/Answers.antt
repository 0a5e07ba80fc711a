use Rattle.std.proofs.Common.{ap, sym, ◌∙◌}
use Rattle.std.specs.Option.{option_copied}
use Rattle.mx_parts.specs.Readings.{events_of, front_of}
use Rattle.mx_parts.proofs.Shown.{plain_is, redacted_is}
use Rattle.mx_parts.proofs.showing.stood.Goals as goal

pub returns-in_ok-redact-in-Some : goal.returns-in_ok-redact-in-Some
returns-in_ok-redact-in-Some c =
    let v = c.args.reading.now in
    c.in_ok-redact-in-Some.ensures
    ∙ redacted_is (events_of v) (front_of v) c.args.event.now c.in-Some.field-0.now (sym c.first_redaction.ensures.first ∙ ap option_copied c.in-Some.is)

pub returns-in_ok-copy-in-None : goal.returns-in_ok-copy-in-None
returns-in_ok-copy-in-None c =
    let v = c.args.reading.now in
    c.in_ok-copy-in-None.ensures
    ∙ plain_is (events_of v) (front_of v) c.args.event.now (sym c.first_redaction.ensures.first ∙ ap option_copied c.in-None.is)
