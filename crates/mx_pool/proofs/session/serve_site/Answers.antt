use denote.Param.Send.{sendable}
use Rattle.std.proofs.Common.{refl}
use Rattle.mx_outside.specs.Causes.{Rose}
use Rattle.mx_restore.proofs.Crosses.{accounts_send, rooms_send}
use Rattle.mx_serve.specs.OfEngine.Shown.{site_of, stops_of, stores_of}
use Rattle.mx_pool.specs.Connections.{change, ends_by, service_of}
use Rattle.mx_pool.specs.Runs.{arrivals}
use Rattle.mx_pool.specs.Serving.{HasNoneLeft}
use Rattle.mx_pool.proofs.Runs.{none_for, served_for, server_closed, server_is, server_rose, service_is}
use Rattle.mx_pool.proofs.session.serve_site.Goals as goal

pub returns-in-Ok-clause-served : goal.returns-in-Ok-clause-served
returns-in-Ok-clause-served g c =
    let done = c.serve-served in
    let words = c.args.words.now in
    served_for g.L.Listener.left (ends_by g.L.In.Source.left g.L.Out.Sink.written g.L.In.Source.faults g.L.Out.Sink.faults) (service_of c.in-Ok.server) c.args.directory words.workers words.requests
    (service_is (site_of c.in-Ok.server.engine) (stops_of c.in-Ok.server.engine) c.in-Ok.server.limit c.args.directory words.workers words.requests c.in-Ok.ensures.site c.in-Ok.ensures.stops c.in-Ok.ensures.limit)
    (arrivals (change (g.L.Listener.left c.args.listener.now) (g.L.Listener.left done.new.listener)) (change c.args.spawner.now.plan.next done.new.spawner.plan.next))
    done.result.0 c.server_status.result (stores_of done.result.1) c.server_status.ensures done.ensures.served

pub returns-in-Err-clause-served : goal.returns-in-Err-clause-served
returns-in-Err-clause-served g c =
    none_for g.L.Listener.left (ends_by g.L.In.Source.left g.L.Out.Sink.written g.L.In.Source.faults g.L.Out.Sink.faults) c.args.directory c.args.words.now.workers c.args.words.now.requests
    (g.L.Listener.left c.args.listener.now) (g.L.Listener.left c.args.listener.now) c.args.spawner.now.plan.next c.args.spawner.now.plan.next _ refl refl (λ e. cc)

pub returns-in-Ok-clause-listener : goal.returns-in-Ok-clause-listener
returns-in-Ok-clause-listener g c =
    let done = c.serve-served in
    server_rose (Rose (g.L.Listener.faults c.args.listener.now) (g.L.Listener.faults done.new.listener)) (Rose c.args.spawner.now.plan.faults done.new.spawner.plan.faults)
    done.result.0 c.server_status.result c.server_status.ensures done.ensures.listen done.ensures.start

pub returns-in-Ok-clause-only : goal.returns-in-Ok-clause-only
returns-in-Ok-clause-only g c = server_is c.serve-served.result.0 c.server_status.result c.server_status.ensures

pub returns-in-Ok-clause-closed : goal.returns-in-Ok-clause-closed
returns-in-Ok-clause-closed g c =
    let done = c.serve-served in
    server_closed (HasNoneLeft (g.L.Listener.left done.new.listener)) done.result.0 c.server_status.result c.server_status.ensures done.ensures.closed

pub serve-served-requires-send-G-Events : goal.serve-served-requires-send-G-Events
serve-served-requires-send-G-Events g c κs within = search (rooms_send, sendable) depth 10

pub serve-served-requires-send-G-Accounts : goal.serve-served-requires-send-G-Accounts
serve-served-requires-send-G-Accounts g c κs within = search (accounts_send, sendable) depth 10
