use Rattle.std.proofs.Common.{◌∙◌, codes}
use Rattle.mx_serve.specs.OfEngine.Shown.{stores_of}
use Rattle.mx_outside.specs.Causes.{Rose}
use Rattle.mx_pool.specs.Connections.{change, ends_by, service_of}
use Rattle.mx_pool.specs.Serving.{HasNoneLeft}
use Rattle.mx_pool.proofs.Journaled.{from_bound, from_none}
use Rattle.mx_pool.proofs.Loops.{unbound_loops}
use Rattle.mx_pool.proofs.Outcomes.{unbound_done, unbound_status}
use Rattle.mx_pool.proofs.Runs.{rose_from, server_closed, server_is, server_rose}
use Rattle.mx_pool.proofs.kept.listen_on.Goals as goal

pub returns-in-Failed-clause-only : goal.returns-in-Failed-clause-only
returns-in-Failed-clause-only g c = unbound_status c.tell_about.result c.tell_about.ensures.status

pub returns-in-Failed-clause-closed : goal.returns-in-Failed-clause-closed
returns-in-Failed-clause-closed g c = λ done. absurd (unbound_done c.tell_about.result c.tell_about.ensures.status done)

pub returns-in-Failed-clause-told : goal.returns-in-Failed-clause-told
returns-in-Failed-clause-told g c =
    unbound_loops (codes "\n") c.args.address.now (g.E.Sink.written c.args.errors.now) (g.E.Sink.written c.tell_about.new.errors) (g.E.Sink.faults c.args.errors.now) (g.E.Sink.faults c.tell_about.new.errors)
    c.tell_about.result c.tell_about.ensures.status c.tell_about.ensures.told

pub returns-in-Failed-clause-served : goal.returns-in-Failed-clause-served
returns-in-Failed-clause-served g c =
    from_none g.L.Listener.left (ends_by g.L.In.Source.left g.L.Out.Sink.written g.L.In.Source.faults g.L.Out.Sink.faults) (service_of c.args.server) (stores_of c.args.pass)
    (g.L.Listener.left c.args.listener.now) (g.L.Listener.left c.listen.new.self) c.args.spawner.now.plan.next c.tell_about.result
    (c.in-Failed.ensures.kept ∙ c.set_up.ensures.kept) (unbound_done c.tell_about.result c.tell_about.ensures.status)

pub returns-in-Done-clause-served : goal.returns-in-Done-clause-served
returns-in-Done-clause-served g c =
    let done = c.serve-served in
    from_bound g.L.Listener.left (ends_by g.L.In.Source.left g.L.Out.Sink.written g.L.In.Source.faults g.L.Out.Sink.faults) (service_of c.args.server) (stores_of c.args.pass)
    (g.L.Listener.left c.args.listener.now) (g.L.Listener.left c.listen.new.self) (g.L.Listener.left done.new.listener) (change c.args.spawner.now.plan.next done.new.spawner.plan.next)
    done.result.0 c.server_status-status.result (stores_of done.result.1) (c.in-Done.ensures.kept ∙ c.set_up.ensures.kept) c.server_status-status.ensures done.ensures.served done.ensures.own

pub returns-in-Done-clause-only : goal.returns-in-Done-clause-only
returns-in-Done-clause-only g c = server_is c.serve-served.result.0 c.server_status-status.result c.server_status-status.ensures

pub returns-in-Done-clause-closed : goal.returns-in-Done-clause-closed
returns-in-Done-clause-closed g c =
    let done = c.serve-served in
    server_closed (HasNoneLeft (g.L.Listener.left done.new.listener)) done.result.0 c.server_status-status.result c.server_status-status.ensures done.ensures.closed

pub returns-in-Done-clause-listener : goal.returns-in-Done-clause-listener
returns-in-Done-clause-listener g c =
    let done = c.serve-served in
    let old = g.L.Listener.faults c.args.listener.now in
    let bound = g.L.Listener.faults c.listen.new.self in
    let new = g.L.Listener.faults done.new.listener in
    server_rose (Rose old new) (Rose c.args.spawner.now.plan.faults done.new.spawner.plan.faults) done.result.0 c.server_status-status.result c.server_status-status.ensures
    (λ failed. rose_from old (g.L.Listener.faults c.set_up.new.listener) bound new c.set_up.ensures.count c.in-Done.ensures.count (done.ensures.listen failed)) done.ensures.start
