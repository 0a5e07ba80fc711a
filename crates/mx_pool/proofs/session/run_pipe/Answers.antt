use Rattle.std.proofs.Common.{None, string_bytes, subst}
use Rattle.mx_pool.specs.Lines.{Tells, line_of}
use Rattle.mx_pool.specs.Connections.{change, clocked}
use Rattle.mx_pool.proofs.Outcomes.{tells_none, tells_served}
use Rattle.mx_pool.proofs.session.run_pipe.Goals as goal

pub returns-in-Ok-clause-told : goal.returns-in-Ok-clause-told
returns-in-Ok-clause-told g c =
    let done = c.serve_users-status in
    tells_served c.in-Ok.directory c.args.words.now.workers c.args.words.now.requests
    (change (g.S.Source.left c.args.input.now) (g.S.Source.left done.new.input)) (change (g.K.Sink.written c.args.output.now) (g.K.Sink.written done.new.output))
    (change (g.S.Source.faults c.args.input.now) (g.S.Source.faults done.new.input)) (change (g.K.Sink.faults c.args.output.now) (g.K.Sink.faults done.new.output))
    (change (clocked (g.C.Clock.last c.args.clock.now) (g.C.Clock.readings c.args.clock.now)) (clocked (g.C.Clock.last done.new.clock) (g.C.Clock.readings done.new.clock))) done.result.0 done.result.1 done.ensures
    (string_bytes c.args.words.now.users)
    (g.E.Sink.written c.args.errors.now) (g.E.Sink.written c.tell.new.errors) (g.E.Sink.faults c.args.errors.now) (g.E.Sink.faults c.tell.new.errors)
    (subst (λ errors. Tells (g.E.Sink.written errors) (g.E.Sink.written c.tell.new.errors) (g.E.Sink.faults errors) (g.E.Sink.faults c.tell.new.errors) (line_of done.result.0 None)) c.in-Ok.ensures.told c.tell.ensures)

pub returns-in-Err-clause-told : goal.returns-in-Err-clause-told
returns-in-Err-clause-told g c =
    tells_none c.unserved.result.connection c.in-Err.status c.unserved.result.status c.as_str.result.now (string_bytes c.args.words.now.users)
    (g.E.Sink.written c.args.errors.now) (g.E.Sink.written c.users_told.new.errors) (g.E.Sink.faults c.args.errors.now) (g.E.Sink.faults c.users_told.new.errors)
    c.unserved.ensures.connection c.unserved.ensures.status c.as_str.ensures.value c.in-Err.ensures.told
