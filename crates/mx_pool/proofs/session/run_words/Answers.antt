use Rattle.std.proofs.Common.{Some, ap, sym, ◌∙◌}
use Rattle.mx_words.specs.Words.{journal_of, said_by}
use Rattle.mx_pool.specs.Connections.{change, ends_by}
use Rattle.mx_pool.specs.Runs.{arrivals}
use Rattle.mx_pool.proofs.Outcomes.{ran_plain, tells_plain}
use Rattle.mx_pool.proofs.Runs.{served_kept, served_plain}
use Rattle.mx_pool.proofs.session.run_words.Goals as goal

pub returns-in-None-clause-ran : goal.returns-in-None-clause-ran
returns-in-None-clause-ran g c =
    ran_plain (journal_of c.args.words.now.journal) (said_by c.args.words.now) _ (g.J.Logs.told c.args.logs.now) (change (g.J.Logs.faults c.args.logs.now) (g.J.Logs.faults c.args.logs.now)) _ _ (ap journal_of c.in-None.is) c.run_plain.ensures.ran

pub returns-in-None-clause-served : goal.returns-in-None-clause-served
returns-in-None-clause-served g c =
    served_plain g.L.Listener.left (ends_by g.L.In.Source.left g.L.Out.Sink.written g.L.In.Source.faults g.L.Out.Sink.faults) (journal_of c.args.words.now.journal) (g.J.Logs.told c.args.logs.now) (said_by c.args.words.now)
    (g.F.Files.told c.args.files.now)
    (arrivals (change (g.L.Listener.left c.args.listener.now) (g.L.Listener.left c.run_plain.new.listener)) (change c.args.spawner.now.plan.next c.run_plain.new.spawner.plan.next))
    c.run_plain.result.status (ap journal_of c.in-None.is) c.run_plain.ensures.served

pub returns-in-None-clause-told : goal.returns-in-None-clause-told
returns-in-None-clause-told g c =
    tells_plain (journal_of c.args.words.now.journal) (said_by c.args.words.now) c.run_plain.result.connection
    (g.E.Sink.written c.args.errors.now) (g.E.Sink.written c.run_plain.new.errors) (g.E.Sink.faults c.args.errors.now) (g.E.Sink.faults c.run_plain.new.errors) c.run_plain.result.status
    (ap journal_of c.in-None.is) c.run_plain.ensures.told

pub returns-in-Some-clause-served : goal.returns-in-Some-clause-served
returns-in-Some-clause-served g c =
    served_kept g.L.Listener.left (ends_by g.L.In.Source.left g.L.Out.Sink.written g.L.In.Source.faults g.L.Out.Sink.faults) (journal_of c.args.words.now.journal) c.as_str.result.now (g.J.Logs.told c.args.logs.now) (said_by c.args.words.now)
    (g.F.Files.told c.args.files.now)
    (arrivals (change (g.L.Listener.left c.args.listener.now) (g.L.Listener.left c.run_kept.new.listener)) (change c.args.spawner.now.plan.next c.run_kept.new.spawner.plan.next))
    c.run_kept.result.status (ap journal_of c.in-Some.is ∙ ap Some (sym c.as_str.ensures.value)) c.run_kept.ensures.served
