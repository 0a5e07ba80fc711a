use Rattle.std.proofs.Common.{◌∙◌, Ok, ap}
use Rattle.clap.specs.Words.{found_of}
use Rattle.mx_words.proofs.Bounds.{within}
use Rattle.mx_words.proofs.reading.read_run.Goals as goal

pub returns-in_ok-owned-in-Ok-clause-within : goal.returns-in_ok-owned-in-Ok-clause-within
returns-in_ok-owned-in-Ok-clause-within c =
    within (found_of c.args.matches.now) c.in_ok-owned-in-Ok.field-0 c.requires (ap Ok c.in_ok-owned-in-Ok.ensures ∙ c.in-Ok.ensures)
