use Rattle.std.proofs.Common.{◌∙◌, refl, string_bytes}
use Rattle.mx_pool.specs.Connections.{change, ends_by}
use Rattle.mx_pool.proofs.Outcomes.{tells_unbound, unbound_done, unbound_status}
use Rattle.mx_pool.proofs.Runs.{bound_for, none_for}
use Rattle.mx_pool.proofs.session.listen.Goals as goal

pub returns-in-Failed-clause-only : goal.returns-in-Failed-clause-only
returns-in-Failed-clause-only g c = unbound_status c.tell_about.result c.tell_about.ensures.status

pub returns-in-Failed-clause-closed : goal.returns-in-Failed-clause-closed
returns-in-Failed-clause-closed g c = λ done. absurd (unbound_done c.tell_about.result c.tell_about.ensures.status done)

pub returns-in-Failed-clause-told : goal.returns-in-Failed-clause-told
returns-in-Failed-clause-told g c =
    tells_unbound c.tell_about.result c.tell_about.ensures.status (string_bytes c.args.words.now.users) c.args.address.now
    (g.E.Sink.written c.args.errors.now) (g.E.Sink.written c.tell_about.new.errors) (g.E.Sink.faults c.args.errors.now) (g.E.Sink.faults c.tell_about.new.errors) c.tell_about.ensures.told

pub returns-in-Failed-clause-served : goal.returns-in-Failed-clause-served
returns-in-Failed-clause-served g c =
    none_for g.L.Listener.left (ends_by g.L.In.Source.left g.L.Out.Sink.written g.L.In.Source.faults g.L.Out.Sink.faults) c.args.directory c.args.words.now.workers c.args.words.now.requests
    (g.L.Listener.left c.args.listener.now) (g.L.Listener.left c.listen.new.self) c.args.spawner.now.plan.next c.args.spawner.now.plan.next c.tell_about.result
    (c.in-Failed.ensures.kept ∙ c.set_up.ensures.kept) refl (unbound_done c.tell_about.result c.tell_about.ensures.status)

pub returns-in-Done-clause-served : goal.returns-in-Done-clause-served
returns-in-Done-clause-served g c =
    bound_for g.L.Listener.left (ends_by g.L.In.Source.left g.L.Out.Sink.written g.L.In.Source.faults g.L.Out.Sink.faults) c.args.directory c.args.words.now.workers c.args.words.now.requests
    (g.L.Listener.left c.args.listener.now) (g.L.Listener.left c.listen.new.self) (g.L.Listener.left c.serve_site-status.new.listener)
    (change c.args.spawner.now.plan.next c.serve_site-status.new.spawner.plan.next) c.serve_site-status.result (c.in-Done.ensures.kept ∙ c.set_up.ensures.kept) c.serve_site-status.ensures.served
