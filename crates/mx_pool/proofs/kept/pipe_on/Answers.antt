use Rattle.mx_serve.specs.OfEngine.Shown.{looks_of, made_of, site_of, stops_of, stores_of}
use Rattle.mx_pool.specs.Connections.{change, clocked}
use Rattle.mx_serve.proofs.OfEngine.Alone.{has_all}
use Rattle.mx_pool.proofs.Journaled.{serves_from}
use Rattle.mx_pool.proofs.kept.pipe_on.Goals as goal

pub returns-clause-served : goal.returns-clause-served
returns-clause-served g c =
    let done = c.serve_connection-ended in
    let server = c.args.server in
    serves_from (record { stops = stops_of server.engine; lists = stores_of c.args.pass; made = made_of c.args.pass })
    (change (g.S.Source.left c.args.input.now) (g.S.Source.left done.new.input))
    (change (g.K.Sink.written c.args.output.now) (g.K.Sink.written done.new.output))
    (change (g.S.Source.faults c.args.input.now) (g.S.Source.faults done.new.input))
    (change (g.K.Sink.faults c.args.output.now) (g.K.Sink.faults done.new.output))
    (change (clocked (g.C.Clock.last c.args.clock.now) (g.C.Clock.readings c.args.clock.now)) (clocked (g.C.Clock.last done.new.clock) (g.C.Clock.readings done.new.clock)))
    done.result done.new.pass (site_of server.engine) server.limit (looks_of c.args.pass) c.status_of-status.result
    done.ensures.served (has_all c.args.pass) done.ensures.valid done.ensures.lawful done.ensures.reads done.ensures.writes c.status_of-status.ensures
