use Rattle.std.proofs.Common.{◌∙◌, ap, sym}
use Rattle.clap.specs.Words.{found_of}
use Rattle.clap.proofs.WalkLemmas.{one_text-rows}
use Rattle.mx_words.specs.Words.{number_in}
use Rattle.mx_words.proofs.matches.number.Goals as goal

pub returns : goal.returns
returns c =
    let read = c.in-Some.ensures.value c.requires.0 c.requires.1 in
    sym (ap number_in (sym (one_text-rows (found_of c.args.matches.now) c.args.id.now) ∙ c.requires.1) ∙ sym read.0.1)
