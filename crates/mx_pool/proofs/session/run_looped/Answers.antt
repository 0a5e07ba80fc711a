use Rattle.std.proofs.Common.{ℕ, List, Some, string_bytes, subst}
use Rattle.mx_pool.specs.Lines.{Tells, line_of, shown}
use Rattle.mx_pool.specs.Connections.{change}
use Rattle.mx_pool.specs.Runs.{TellsServer}
use Rattle.mx_pool.proofs.Outcomes.{tells_unread}
use Rattle.mx_pool.proofs.session.run_looped.Goals as goal

pub returns-in-Err-clause-told : goal.returns-in-Err-clause-told
returns-in-Err-clause-told g c =
    let old = g.E.Sink.written c.args.errors.now in
    let new = g.E.Sink.written c.users_told.new.errors in
    let before = g.E.Sink.faults c.args.errors.now in
    let now = g.E.Sink.faults c.users_told.new.errors in
    tells_unread (g.F.Files.told c.args.files.now c.as_str.result.now) (change (g.F.Files.faults c.args.files.now) (g.F.Files.faults c.users_told.new.files)) c.in-Err.status c.in-Err.ensures.cause
    (string_bytes c.args.words.now.users) c.args.address.now old new before now
    (subst (λ (t : List ℕ). Tells old new before now (line_of c.in-Err.status (Some (shown t)))) c.as_str.ensures.value c.in-Err.ensures.told)

pub returns-in-Ok-clause-told : goal.returns-in-Ok-clause-told
returns-in-Ok-clause-told g c =
    subst (λ errors. TellsServer (string_bytes c.args.words.now.users) c.args.address.now (g.E.Sink.written errors) (g.E.Sink.written c.loop_for.new.errors) (g.E.Sink.faults errors)
    (g.E.Sink.faults c.loop_for.new.errors) c.loop_for.result) c.in-Ok.ensures.told c.loop_for.ensures.told
