use Rattle.mx_pool.specs.Connections.{change, ends_by, service_of}
use Rattle.mx_pool.proofs.Ending.{has_served}
use Rattle.mx_pool.proofs.serving.serve.Goals as goal

pub returns-clause-served : goal.returns-clause-served
returns-clause-served g c =
    let done = c.serve_by in
    has_served g.L.Listener.left (service_of c.args.server) (ends_by g.L.In.Source.left g.L.Out.Sink.written g.L.In.Source.faults g.L.Out.Sink.faults)
    (change (g.L.Listener.left c.args.listener.now) (g.L.Listener.left done.new.listener)) (change c.args.spawner.now.plan.next done.new.spawner.plan.next) done.result.0 done.result.1 done.ensures.served
