use Rattle.std.proofs.Common.{◌∙◌}
use Rattle.mx_parts.proofs.Shown.{first_is, first_listed}
use Rattle.mx_parts.proofs.showing.first_redaction.Goals as goal

pub returns-clause-first : goal.returns-clause-first
returns-clause-first c =
    c.first_redaction.ensures
    ∙ first_is c.first_redactions_are.ensures c.args.reading.now c.front-front.ensures.placed c.requires.read.valid c.args.event.now c.requires.listed
    c.front-front.result c.front-front.ensures.count

pub returns-clause-listed : goal.returns-clause-listed
returns-clause-listed c =
    first_listed c.args.reading.now c.front-front.ensures.placed c.args.event.now c.first_redaction.result
    (c.first_redaction.ensures
    ∙ first_is c.first_redactions_are.ensures c.args.reading.now c.front-front.ensures.placed c.requires.read.valid c.args.event.now c.requires.listed
    c.front-front.result c.front-front.ensures.count)
