use denote.Param.Send.{sendable}
use Rattle.std.proofs.Common.{string_bytes}
use Rattle.mx_restore.proofs.Crosses.{accounts_send, rooms_send}
use Rattle.mx_pool.proofs.Loops.{bound_server}
use Rattle.mx_pool.proofs.session.loop_for.Goals as goal

pub returns-in-Ok-clause-told : goal.returns-in-Ok-clause-told
returns-in-Ok-clause-told g c =
    bound_server (string_bytes c.args.words.now.users) c.args.address.now (g.E.Sink.written c.args.errors.now) (g.E.Sink.written c.loop_on.new.errors) (g.E.Sink.faults c.args.errors.now) (g.E.Sink.faults c.loop_on.new.errors)
    c.loop_on.result c.loop_on.ensures.told

pub loop_on-requires-send-G-Events : goal.loop_on-requires-send-G-Events
loop_on-requires-send-G-Events g c κs within = search (rooms_send, sendable) depth 10

pub loop_on-requires-send-G-Accounts : goal.loop_on-requires-send-G-Accounts
loop_on-requires-send-G-Accounts g c κs within = search (accounts_send, sendable) depth 10
