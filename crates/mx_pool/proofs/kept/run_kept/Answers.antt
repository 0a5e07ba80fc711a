use denote.Exit.{no}
use denote.Param.{param}
use denote.Param.Send.{arg_send, param_send}
use Rattle.std.proofs.Common.{Some, refl, sym, ap, ◌∙◌, string_bytes, subst}
use Rattle.std.proofs.KnownBytes.{Keeps-refl}
use Rattle.mx_restore.proofs.Crosses.{kept_accounts_send, kept_rooms_send}
use Rattle.mx_serve.specs.OfEngine.Shown.{made_of, site_of, stops_of, stores_of}
use Rattle.mx_words.specs.Words.{Loop, Serve, address_in, said_by, way_by}
use Rattle.mx_pool.specs.Connections.{change, ends_by, service_of}
use Rattle.mx_pool.specs.Lines.{Tells, line_of}
use Rattle.mx_pool.specs.Runs.{TellsListened, arrivals}
use Rattle.mx_pool.proofs.Runs.{on_loops, on_none}
use Rattle.mx_pool.proofs.Journaled.{closed_loops, closed_on, idle_on, kept_done, kept_listener, on_address, ran_pipe_on, ran_server_on, ran_unmade, rose_loops, rose_on, served_listener, service_on, told_pipe_on, told_server_on, told_unmade}
use Rattle.mx_pool.proofs.kept.run_kept.Goals as goal

-- ---- no engine

pub returns-in-Err-clause-ran : goal.returns-in-Err-clause-ran
returns-in-Err-clause-ran g c =
    ran_unmade (address_in (way_by c.args.words.now.mode)) c.args.name.now (said_by c.args.words.now) _ c.in-Err.status c.unserved.result.status c.unserved.result.connection c.unserved.ensures.connection c.unserved.ensures.status
    (record { taken = Keeps-refl (g.S.Source.left c.args.input.now); put = Keeps-refl (g.K.Sink.written c.args.output.now); unread = refl }) c.in-Err.ensures.cause

pub returns-in-Err-clause-closed : goal.returns-in-Err-clause-closed
returns-in-Err-clause-closed g c = λ done. absurd (kept_done _ _ _ c.in-Err.status c.unserved.result.status c.unserved.ensures.status c.in-Err.ensures.cause done)

pub returns-in-Err-clause-listener : goal.returns-in-Err-clause-listener
returns-in-Err-clause-listener g c = λ is. absurd (kept_listener _ _ _ c.in-Err.status c.unserved.result.status c.unserved.ensures.status c.in-Err.ensures.cause is)

pub returns-in-Err-clause-served : goal.returns-in-Err-clause-served
returns-in-Err-clause-served g c =
    on_none g.L.Listener.left (ends_by g.L.In.Source.left g.L.Out.Sink.written g.L.In.Source.faults g.L.Out.Sink.faults) (way_by c.args.words.now.mode) (g.J.Logs.told c.args.logs.now c.args.name.now)
    (said_by c.args.words.now) (g.F.Files.told c.args.files.now) _ c.unserved.result.status (record { pairs_are = refl; starts_are = refl })
    (kept_done _ _ _ c.in-Err.status c.unserved.result.status c.unserved.ensures.status c.in-Err.ensures.cause)

pub returns-in-Err-clause-told : goal.returns-in-Err-clause-told
returns-in-Err-clause-told g c =
    told_unmade (address_in (way_by c.args.words.now.mode)) (string_bytes c.args.words.now.users) c.args.name.now c.unserved.result.connection
    (g.E.Sink.written c.args.errors.now) (g.E.Sink.written c.kept_server.new.errors) (g.E.Sink.faults c.args.errors.now) (g.E.Sink.faults c.kept_server.new.errors)
    c.in-Err.status c.unserved.result.status c.unserved.ensures.connection c.unserved.ensures.status c.in-Err.ensures.told

-- ---- a connection

pub returns-in-Pipe-clause-ran : goal.returns-in-Pipe-clause-ran
returns-in-Pipe-clause-ran g c =
    let done = c.pipe_on in
    let server = c.in-Ok.made.0 in
    let pass = c.in-Ok.made.1 in
    ran_pipe_on (address_in (way_by c.args.words.now.mode)) c.args.name.now (said_by c.args.words.now) _ done.result.status done.result.connection (site_of server.engine)
    (record { stops = stops_of server.engine; lists = stores_of pass; made = made_of pass }) server.limit (ap (λ m. address_in (way_by m)) c.in-Pipe.is)
    c.in-Ok.ensures.site c.in-Ok.ensures.stops c.in-Ok.ensures.limit c.in-Ok.ensures.stores c.in-Ok.ensures.alone done.ensures.some done.ensures.served

pub returns-in-Pipe-clause-listener : goal.returns-in-Pipe-clause-listener
returns-in-Pipe-clause-listener g c = λ is. absurd (served_listener _ _ _ _ _ _ _ _ _ c.pipe_on.result.status c.pipe_on.result.connection c.pipe_on.ensures.some c.pipe_on.ensures.served is)

pub returns-in-Pipe-clause-served : goal.returns-in-Pipe-clause-served
returns-in-Pipe-clause-served g c =
    idle_on g.L.Listener.left (ends_by g.L.In.Source.left g.L.Out.Sink.written g.L.In.Source.faults g.L.Out.Sink.faults) (way_by c.args.words.now.mode) (g.J.Logs.told c.args.logs.now c.args.name.now)
    (said_by c.args.words.now) (g.F.Files.told c.args.files.now) _ c.pipe_on.result.status (ap way_by c.in-Pipe.is) (record { pairs_are = refl; starts_are = refl })

pub returns-in-Pipe-clause-told : goal.returns-in-Pipe-clause-told
returns-in-Pipe-clause-told g c =
    let done = c.pipe_on in
    told_pipe_on (address_in (way_by c.args.words.now.mode)) (string_bytes c.args.words.now.users) c.args.name.now done.result.connection
    (g.E.Sink.written c.args.errors.now) (g.E.Sink.written done.new.errors) (g.E.Sink.faults c.args.errors.now) (g.E.Sink.faults done.new.errors) done.result.status (ap (λ m. address_in (way_by m)) c.in-Pipe.is) done.ensures.some
    (subst (λ errors. Tells (g.E.Sink.written errors) (g.E.Sink.written done.new.errors) (g.E.Sink.faults errors) (g.E.Sink.faults done.new.errors) (line_of done.result.status _)) c.in-Ok.ensures.told done.ensures.told)

-- ---- a server

pub returns-in-Serve-clause-ran : goal.returns-in-Serve-clause-ran
returns-in-Serve-clause-ran g c =
    ran_server_on (address_in (way_by c.args.words.now.mode)) c.as_str.result.now c.args.name.now (said_by c.args.words.now) _ c.listen_on.result c.unserved-in-Serve.result.status c.unserved-in-Serve.result.connection c.in-Ok.ensures.site.0
    (ap Some c.as_str.ensures.value ∙ sym (ap (λ m. address_in (way_by m)) c.in-Serve.is)) c.unserved-in-Serve.ensures.connection c.unserved-in-Serve.ensures.status
    (record { taken = Keeps-refl (g.S.Source.left c.args.input.now); put = Keeps-refl (g.K.Sink.written c.args.output.now); unread = refl }) c.in-Ok.ensures.site.1 c.listen_on.ensures.only

pub returns-in-Serve-clause-closed : goal.returns-in-Serve-clause-closed
returns-in-Serve-clause-closed g c = λ done.
    closed_on (way_by c.args.words.now.mode) c.as_str.result.now (g.L.Listener.left c.listen_on.new.listener) (g.Q.Ports.left c.args.ports.now) (ap Serve c.as_str.ensures.value ∙ sym (ap way_by c.in-Serve.is))
    (c.listen_on.ensures.closed (sym c.unserved-in-Serve.ensures.status ∙ done))

pub returns-in-Serve-clause-listener : goal.returns-in-Serve-clause-listener
returns-in-Serve-clause-listener g c = λ is.
    rose_on (way_by c.args.words.now.mode) c.as_str.result.now (change (g.L.Listener.faults c.args.listener.now) (g.L.Listener.faults c.listen_on.new.listener))
    (change c.args.spawner.now.plan.faults c.listen_on.new.spawner.plan.faults) (change (g.Q.Ports.faults c.args.ports.now) (g.Q.Ports.faults c.args.ports.now)) (ap Serve c.as_str.ensures.value ∙ sym (ap way_by c.in-Serve.is))
    (c.listen_on.ensures.listener (sym c.unserved-in-Serve.ensures.status ∙ is))

pub returns-in-Serve-clause-served : goal.returns-in-Serve-clause-served
returns-in-Serve-clause-served g c =
    let server = c.in-Ok.made.0 in
    let words = c.args.words.now in
    on_address g.L.Listener.left (ends_by g.L.In.Source.left g.L.Out.Sink.written g.L.In.Source.faults g.L.Out.Sink.faults) (service_of server) (stores_of c.in-Ok.made.1)
    (way_by words.mode) c.as_str.result.now (g.J.Logs.told c.args.logs.now c.args.name.now) (said_by words) (g.F.Files.told c.args.files.now)
    (arrivals (change (g.L.Listener.left c.args.listener.now) (g.L.Listener.left c.listen_on.new.listener)) (change c.args.spawner.now.plan.next c.listen_on.new.spawner.plan.next))
    c.listen_on.result c.unserved-in-Serve.result.status c.in-Ok.ensures.site.0 (ap Serve c.as_str.ensures.value ∙ sym (ap way_by c.in-Serve.is)) c.unserved-in-Serve.ensures.status c.in-Ok.ensures.site.1
    (service_on (site_of server.engine) (stops_of server.engine) server.limit c.in-Ok.ensures.site.0 words.workers words.requests c.in-Ok.ensures.site.2 c.in-Ok.ensures.stops c.in-Ok.ensures.limit)
    c.in-Ok.ensures.stores c.listen_on.ensures.served

pub returns-in-Serve-clause-told : goal.returns-in-Serve-clause-told
returns-in-Serve-clause-told g c =
    let done = c.listen_on in
    told_server_on (address_in (way_by c.args.words.now.mode)) c.as_str.result.now (string_bytes c.args.words.now.users) c.args.name.now c.unserved-in-Serve.result.connection
    (g.E.Sink.written c.args.errors.now) (g.E.Sink.written done.new.errors) (g.E.Sink.faults c.args.errors.now) (g.E.Sink.faults done.new.errors) done.result c.unserved-in-Serve.result.status
    (ap Some c.as_str.ensures.value ∙ sym (ap (λ m. address_in (way_by m)) c.in-Serve.is)) c.unserved-in-Serve.ensures.status
    (subst (λ errors. TellsListened c.as_str.result.now (g.E.Sink.written errors) (g.E.Sink.written done.new.errors) (g.E.Sink.faults errors) (g.E.Sink.faults done.new.errors) done.result) c.in-Ok.ensures.told done.ensures.told)

pub listen_on-requires-send-G-Events : goal.listen_on-requires-send-G-Events
listen_on-requires-send-G-Events g c κs within = param_send 5 _ (arg_send _ no _ (kept_rooms_send (param 9 g.row.J-File) _ c.type_bounds.send-J-File))

pub listen_on-requires-send-G-Accounts : goal.listen_on-requires-send-G-Accounts
listen_on-requires-send-G-Accounts g c κs within = param_send 7 _ (arg_send _ no _ (kept_accounts_send (param 9 g.row.J-File) _ c.type_bounds.send-J-File))

-- ---- loops

pub returns-in-Loop-clause-ran : goal.returns-in-Loop-clause-ran
returns-in-Loop-clause-ran g c =
    ran_server_on (address_in (way_by c.args.words.now.mode)) c.as_str-in-Loop.result.now c.args.name.now (said_by c.args.words.now) _ c.loop_on.result c.unserved-in-Loop.result.status c.unserved-in-Loop.result.connection c.in-Ok.ensures.site.0
    (ap Some c.as_str-in-Loop.ensures.value ∙ sym (ap (λ m. address_in (way_by m)) c.in-Loop.is)) c.unserved-in-Loop.ensures.connection c.unserved-in-Loop.ensures.status
    (record { taken = Keeps-refl (g.S.Source.left c.args.input.now); put = Keeps-refl (g.K.Sink.written c.args.output.now); unread = refl }) c.in-Ok.ensures.site.1 c.loop_on.ensures.only

pub returns-in-Loop-clause-closed : goal.returns-in-Loop-clause-closed
returns-in-Loop-clause-closed g c = λ done.
    closed_loops (way_by c.args.words.now.mode) c.as_str-in-Loop.result.now (g.L.Listener.left c.args.listener.now) (g.Q.Ports.left c.loop_on.new.ports) (ap Loop c.as_str-in-Loop.ensures.value ∙ sym (ap way_by c.in-Loop.is))
    (c.loop_on.ensures.closed (sym c.unserved-in-Loop.ensures.status ∙ done))

pub returns-in-Loop-clause-listener : goal.returns-in-Loop-clause-listener
returns-in-Loop-clause-listener g c = λ is.
    rose_loops (way_by c.args.words.now.mode) c.as_str-in-Loop.result.now (change (g.L.Listener.faults c.args.listener.now) (g.L.Listener.faults c.args.listener.now))
    (change c.args.spawner.now.plan.faults c.loop_on.new.spawner.plan.faults) (change (g.Q.Ports.faults c.args.ports.now) (g.Q.Ports.faults c.loop_on.new.ports)) (ap Loop c.as_str-in-Loop.ensures.value ∙ sym (ap way_by c.in-Loop.is))
    (c.loop_on.ensures.listener (sym c.unserved-in-Loop.ensures.status ∙ is))

pub returns-in-Loop-clause-served : goal.returns-in-Loop-clause-served
returns-in-Loop-clause-served g c =
    on_loops g.L.Listener.left (ends_by g.L.In.Source.left g.L.Out.Sink.written g.L.In.Source.faults g.L.Out.Sink.faults) (way_by c.args.words.now.mode) c.as_str-in-Loop.result.now (g.J.Logs.told c.args.logs.now c.args.name.now)
    (said_by c.args.words.now) (g.F.Files.told c.args.files.now) _ c.unserved-in-Loop.result.status (ap Loop c.as_str-in-Loop.ensures.value ∙ sym (ap way_by c.in-Loop.is)) refl

pub returns-in-Loop-clause-told : goal.returns-in-Loop-clause-told
returns-in-Loop-clause-told g c =
    let done = c.loop_on in
    told_server_on (address_in (way_by c.args.words.now.mode)) c.as_str-in-Loop.result.now (string_bytes c.args.words.now.users) c.args.name.now c.unserved-in-Loop.result.connection
    (g.E.Sink.written c.args.errors.now) (g.E.Sink.written done.new.errors) (g.E.Sink.faults c.args.errors.now) (g.E.Sink.faults done.new.errors) done.result c.unserved-in-Loop.result.status
    (ap Some c.as_str-in-Loop.ensures.value ∙ sym (ap (λ m. address_in (way_by m)) c.in-Loop.is)) c.unserved-in-Loop.ensures.status
    (subst (λ errors. TellsListened c.as_str-in-Loop.result.now (g.E.Sink.written errors) (g.E.Sink.written done.new.errors) (g.E.Sink.faults errors) (g.E.Sink.faults done.new.errors) done.result) c.in-Ok.ensures.told done.ensures.told)

pub loop_on-requires-send-G-Events : goal.loop_on-requires-send-G-Events
loop_on-requires-send-G-Events g c κs within = param_send 5 _ (arg_send _ no _ (kept_rooms_send (param 9 g.row.J-File) _ c.type_bounds.send-J-File))

pub loop_on-requires-send-G-Accounts : goal.loop_on-requires-send-G-Accounts
loop_on-requires-send-G-Accounts g c κs within = param_send 7 _ (arg_send _ no _ (kept_accounts_send (param 9 g.row.J-File) _ c.type_bounds.send-J-File))
