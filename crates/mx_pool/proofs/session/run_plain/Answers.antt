use Rattle.std.proofs.Common.{Some, refl, sym, ap, ◌∙◌, string_bytes}
use Rattle.mx_words.specs.Words.{Loop, Serve, address_in, said_by, way_by}
use Rattle.mx_pool.specs.Connections.{change, ends_by}
use Rattle.mx_pool.specs.Runs.{arrivals}
use Rattle.mx_pool.proofs.Outcomes.{tells_at}
use Rattle.mx_pool.proofs.Runs.{by_address, by_loops}
use Rattle.mx_pool.proofs.session.run_plain.Goals as goal

pub returns-in-Serve-clause-told : goal.returns-in-Serve-clause-told
returns-in-Serve-clause-told g c =
    tells_at (g.E.Sink.written c.args.errors.now) (g.E.Sink.written c.run_server.new.errors) (g.E.Sink.faults c.args.errors.now) (g.E.Sink.faults c.run_server.new.errors)
    (address_in (way_by c.args.words.now.mode)) (string_bytes c.args.words.now.users) c.as_str.result.now c.unserved.result.connection c.run_server.result c.unserved.result.status
    (ap Some c.as_str.ensures.value ∙ sym (ap (λ m. address_in (way_by m)) c.in-Serve.is)) c.unserved.ensures.status c.run_server.ensures.told

pub returns-in-Serve-clause-served : goal.returns-in-Serve-clause-served
returns-in-Serve-clause-served g c =
    by_address g.L.Listener.left (ends_by g.L.In.Source.left g.L.Out.Sink.written g.L.In.Source.faults g.L.Out.Sink.faults) (way_by c.args.words.now.mode) c.as_str.result.now (said_by c.args.words.now) (g.F.Files.told c.args.files.now)
    (arrivals (change (g.L.Listener.left c.args.listener.now) (g.L.Listener.left c.run_server.new.listener)) (change c.args.spawner.now.plan.next c.run_server.new.spawner.plan.next))
    c.run_server.result c.unserved.result.status (ap Serve c.as_str.ensures.value ∙ sym (ap way_by c.in-Serve.is)) c.unserved.ensures.status c.run_server.ensures.served

pub returns-in-Loop-clause-told : goal.returns-in-Loop-clause-told
returns-in-Loop-clause-told g c =
    tells_at (g.E.Sink.written c.args.errors.now) (g.E.Sink.written c.run_looped.new.errors) (g.E.Sink.faults c.args.errors.now) (g.E.Sink.faults c.run_looped.new.errors)
    (address_in (way_by c.args.words.now.mode)) (string_bytes c.args.words.now.users) c.as_str-in-Loop.result.now c.unserved-in-Loop.result.connection c.run_looped.result c.unserved-in-Loop.result.status
    (ap Some c.as_str-in-Loop.ensures.value ∙ sym (ap (λ m. address_in (way_by m)) c.in-Loop.is)) c.unserved-in-Loop.ensures.status c.run_looped.ensures.told

pub returns-in-Loop-clause-served : goal.returns-in-Loop-clause-served
returns-in-Loop-clause-served g c =
    by_loops g.L.Listener.left (ends_by g.L.In.Source.left g.L.Out.Sink.written g.L.In.Source.faults g.L.Out.Sink.faults) (way_by c.args.words.now.mode) c.as_str-in-Loop.result.now (said_by c.args.words.now) (g.F.Files.told c.args.files.now)
    _ c.unserved-in-Loop.result.status (ap Loop c.as_str-in-Loop.ensures.value ∙ sym (ap way_by c.in-Loop.is)) refl
