use Rattle.std.proofs.Common.{ap, arith, refl, subst, sym}
use Rattle.mx_engine.specs.declared.answered.Mark.{Mark}
use Rattle.mx_poll.proofs.Readings.{reads_none}
use Rattle.mx_engine.specs.Acts.Acts.{Reads}
use Rattle.mx_engine.specs.Shown.{stops_of, stores_of}
use Rattle.mx_engine.proofs.Done.{none_done}
use Rattle.mx_fold.specs.Lists.{lists_of}
use Rattle.mx_poll.specs.Polls.{IsPolled, said_of}
use Rattle.mx_poll.proofs.Later.{grows_none, kept_ties, waited_kept, waited_none}
use Rattle.mx_poll.proofs.answering.wait.Goals as goal

pub rest-outcome-requires-clause-ties : goal.rest-outcome-requires-clause-ties
rest-outcome-requires-clause-ties g c = kept_ties c.args.engine.now c.args.pass.now c.flag.new.self c.flag.ensures c.requires.ties

pub rest-outcome-requires-clause-polled : goal.rest-outcome-requires-clause-polled
rest-outcome-requires-clause-polled g c = subst (λ p. IsPolled c.args.waiting (lists_of (stores_of p))) (sym c.flag.ensures) c.requires.polled

pub returns-in-Ok-clause-done : goal.returns-in-Ok-clause-done
returns-in-Ok-clause-done g c =
    waited_kept c.args.engine.now (Reads (said_of c.args.waiting)) c.args.pass.now c.flag.new.self c.rest-outcome.new.pass c.keep.new.self c.rest-outcome.result.answered c.flag.ensures c.keep.ensures c.rest-outcome.ensures.done

pub returns-in-Err-clause-done : goal.returns-in-Err-clause-done
returns-in-Err-clause-done g c =
    waited_none c.args.engine.now (Reads (said_of c.args.waiting)) c.args.pass.now c.flag.new.self c.no_memory.result c.flag.ensures c.requires.ties
    (none_done (stops_of c.args.engine.now) (Reads (said_of c.args.waiting)) c.args.now (stores_of c.flag.new.self) (stores_of c.flag.new.self) c.no_memory.result (grows_none _)
    c.no_memory.ensures.said c.no_memory.ensures.mark)

pub returns-in-Ok-clause-read : goal.returns-in-Ok-clause-read
returns-in-Ok-clause-read g c = c.rest-outcome.ensures.read c.args.now

pub returns-in-Err-clause-read : goal.returns-in-Err-clause-read
returns-in-Err-clause-read g c = reads_none _ _ c.args.now c.no_memory.result.mark.now refl (sym (ap (λ (m : Mark). m.now) c.no_memory.ensures.mark))

pub returns-in-Err-clause-output : goal.returns-in-Err-clause-output
returns-in-Err-clause-output g c = record { bytes = refl; count = omega arith; cause = λ left. absurd cc }
