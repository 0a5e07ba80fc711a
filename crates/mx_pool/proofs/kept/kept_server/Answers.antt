use Rattle.std.proofs.Common.{ℕ, List, Some, string_bytes, subst}
use Rattle.mx_pool.specs.Connections.{change}
use Rattle.mx_pool.specs.Lines.{Tells, line_of, shown}
use Rattle.mx_pool.specs.Runs.{HasUsers, IsKeptCause, TellsUnmade}
use Rattle.mx_pool.proofs.Journaled.{unopened_rose, kept_cause, none_unmade, none_unread, unmade_cause}
use Rattle.mx_pool.proofs.kept.kept_server.Goals as goal

pub returns-in-Err-clause-cause : goal.returns-in-Err-clause-cause
returns-in-Err-clause-cause g c =
    let faults = change (g.F.Files.faults c.args.files.now) (g.F.Files.faults c.users_told.new.files) in
    let logs = change (g.J.Logs.faults c.args.logs.now) (g.J.Logs.faults c.args.logs.now) in
    subst (λ (t : List ℕ). IsKeptCause (g.F.Files.told c.args.files.now t) faults logs c.in-Err.status) c.as_str.ensures.value
    (kept_cause (g.F.Files.told c.args.files.now c.as_str.result.now) faults logs c.in-Err.status c.in-Err.ensures.cause)

pub returns-in-Err-clause-told : goal.returns-in-Err-clause-told
returns-in-Err-clause-told g c =
    let old = g.E.Sink.written c.args.errors.now in
    let new = g.E.Sink.written c.users_told.new.errors in
    let before = g.E.Sink.faults c.args.errors.now in
    let now = g.E.Sink.faults c.users_told.new.errors in
    none_unread (g.F.Files.told c.args.files.now c.as_str.result.now) (change (g.F.Files.faults c.args.files.now) (g.F.Files.faults c.users_told.new.files))
    (string_bytes c.args.words.now.users) c.args.name.now old new before now c.in-Err.status c.in-Err.ensures.cause
    (subst (λ (t : List ℕ). Tells old new before now (line_of c.in-Err.status (Some (shown t)))) c.as_str.ensures.value c.in-Err.ensures.told)

pub returns-in-Err-server_on-clause-cause : goal.returns-in-Err-server_on-clause-cause
returns-in-Err-server_on-clause-cause g c =
    unmade_cause _ _ _ c.args.name.now (g.E.Sink.written c.users_told.new.errors) (g.E.Sink.written c.tell_unrestored.new.errors) (g.E.Sink.faults c.users_told.new.errors) (g.E.Sink.faults c.tell_unrestored.new.errors)
    c.tell_unrestored.result c.tell_unrestored.ensures.told
    (unopened_rose c.in-Err-server_on.fault _ _ c.tell_unrestored.result c.tell_unrestored.ensures.status c.in-Err-server_on.ensures.cause)

pub returns-in-Err-server_on-clause-told : goal.returns-in-Err-server_on-clause-told
returns-in-Err-server_on-clause-told g c =
    let done = c.tell_unrestored in
    none_unmade (string_bytes c.args.words.now.users) c.args.name.now (g.E.Sink.written c.args.errors.now) (g.E.Sink.written done.new.errors) (g.E.Sink.faults c.args.errors.now) (g.E.Sink.faults done.new.errors) done.result
    (subst (λ errors. TellsUnmade c.args.name.now (g.E.Sink.written errors) (g.E.Sink.written done.new.errors) (g.E.Sink.faults errors) (g.E.Sink.faults done.new.errors) done.result) c.in-Ok.ensures.told done.ensures.told)

pub returns-in-Ok-server_on-clause-site : goal.returns-in-Ok-server_on-clause-site
returns-in-Ok-server_on-clause-site g c = (
  c.in-Ok.directory,
  subst (λ (t : List ℕ). HasUsers (g.F.Files.told c.args.files.now t) c.in-Ok.directory) c.as_str.ensures.value c.in-Ok.ensures.users,
  c.in-Ok-server_on.ensures.site,
)
