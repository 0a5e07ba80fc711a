use Rattle.std.proofs.Common.{ℕ, List, Some, string_bytes, inl, refl, subst}
use Rattle.mx_pool.specs.Lines.{Tells, line_of, shown}
use Rattle.mx_pool.specs.Connections.{change, ends_by}
use Rattle.mx_pool.specs.Runs.{HasUsers, TellsServer, arrivals}
use Rattle.mx_pool.proofs.Outcomes.{tells_unread}
use Rattle.mx_pool.proofs.Runs.{cause_done, file_for}
use Rattle.mx_words.specs.Words.{said_by}
use Rattle.mx_pool.proofs.session.run_server.Goals as goal

pub returns-in-Err-clause-told : goal.returns-in-Err-clause-told
returns-in-Err-clause-told g c =
    let old = g.E.Sink.written c.args.errors.now in
    let new = g.E.Sink.written c.users_told.new.errors in
    let before = g.E.Sink.faults c.args.errors.now in
    let now = g.E.Sink.faults c.users_told.new.errors in
    tells_unread (g.F.Files.told c.args.files.now c.as_str.result.now) (change (g.F.Files.faults c.args.files.now) (g.F.Files.faults c.users_told.new.files)) c.in-Err.status c.in-Err.ensures.cause
    (string_bytes c.args.words.now.users) c.args.address.now old new before now
    (subst (λ (t : List ℕ). Tells old new before now (line_of c.in-Err.status (Some (shown t)))) c.as_str.ensures.value c.in-Err.ensures.told)

pub returns-in-Ok-clause-told : goal.returns-in-Ok-clause-told
returns-in-Ok-clause-told g c =
    subst (λ errors. TellsServer (string_bytes c.args.words.now.users) c.args.address.now (g.E.Sink.written errors) (g.E.Sink.written c.listen.new.errors) (g.E.Sink.faults errors)
    (g.E.Sink.faults c.listen.new.errors) c.listen.result) c.in-Ok.ensures.told c.listen.ensures.told

pub returns-in-Err-clause-served : goal.returns-in-Err-clause-served
returns-in-Err-clause-served g c =
    inl (record { pairs_are = refl; starts_are = refl }, cause_done (g.F.Files.told c.args.files.now c.as_str.result.now) (change (g.F.Files.faults c.args.files.now) (g.F.Files.faults c.users_told.new.files)) c.in-Err.status c.in-Err.ensures.cause)

pub returns-in-Ok-clause-served : goal.returns-in-Ok-clause-served
returns-in-Ok-clause-served g c =
    file_for g.L.Listener.left (ends_by g.L.In.Source.left g.L.Out.Sink.written g.L.In.Source.faults g.L.Out.Sink.faults) c.in-Ok.directory (said_by c.args.words.now) (g.F.Files.told c.args.files.now)
    (arrivals (change (g.L.Listener.left c.args.listener.now) (g.L.Listener.left c.listen.new.listener)) (change c.args.spawner.now.plan.next c.listen.new.spawner.plan.next))
    c.listen.result (subst (λ (t : List ℕ). HasUsers (g.F.Files.told c.args.files.now t) c.in-Ok.directory) c.as_str.ensures.value c.in-Ok.ensures.users) c.listen.ensures.served
