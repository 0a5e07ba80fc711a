use Rattle.mx_serve.specs.OfEngine.Shown.{looks_of, made_of, stores_of, site_of, stops_of}
use Rattle.mx_pool.specs.Connections.{change, clocked}
use Rattle.mx_pool.proofs.Runs.{serves}
use Rattle.mx_pool.proofs.site.serve_users.Goals as goal

pub returns : goal.returns
returns g c =
    let done = c.serve_connection-ended in
    serves c.args.directory c.args.workers c.args.limit
    (change (g.S.Source.left c.args.input.now) (g.S.Source.left done.new.input))
    (change (g.K.Sink.written c.args.output.now) (g.K.Sink.written done.new.output))
    (change (g.S.Source.faults c.args.input.now) (g.S.Source.faults done.new.input))
    (change (g.K.Sink.faults c.args.output.now) (g.K.Sink.faults done.new.output))
    (change (clocked (g.C.Clock.last c.args.clock.now) (g.C.Clock.readings c.args.clock.now)) (clocked (g.C.Clock.last done.new.clock) (g.C.Clock.readings done.new.clock)))
    done.result done.new.pass
    (site_of c.in-Ok.made.0.engine) (stops_of c.in-Ok.made.0.engine) c.in-Ok.made.0.limit (stores_of c.in-Ok.made.1) (made_of c.in-Ok.made.1) (looks_of c.in-Ok.made.1) c.status_of.result
    c.in-Ok.ensures.site c.in-Ok.ensures.stops c.in-Ok.ensures.limit c.in-Ok.ensures.nothing c.in-Ok.ensures.made
    done.ensures.served done.ensures.valid done.ensures.lawful
    done.ensures.reads done.ensures.writes c.status_of.ensures
