use Rattle.std.proofs.Common.{subst, sym}
use Rattle.mx_engine.specs.Acts.Acts.{Reads}
use Rattle.mx_engine.specs.Shown.{IsDoneBy, stops_of, stores_of}
use Rattle.mx_engine.specs.declared.held.EnginePass.{EnginePass}
use Rattle.mx_poll.specs.Polls.{said_of}
use Rattle.mx_poll.proofs.answering.tell.Goals as goal

pub returns-in-Ok : goal.returns-in-Ok
returns-in-Ok g c =
    subst (λ (p : EnginePass). IsDoneBy c.args.engine.now c.args.now (Reads (said_of c.args.waiting.now)) c.args.pass.now p c.sync_known.result) (sym c.sync_known.ensures.same)
    (record {
      ties = c.in-Ok.ensures.ties;
      done = c.sync_known.ensures.done (stops_of c.args.engine.now) (stores_of c.args.pass.now) c.in-Ok.ensures.begins;
      made = c.in-Ok.ensures.made;
      looks = c.in-Ok.ensures.looks;
      now_is = c.sync_known.ensures.now;
    })
