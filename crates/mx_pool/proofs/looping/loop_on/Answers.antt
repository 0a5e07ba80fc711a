use Rattle.mx_pool.proofs.Loops.{loops_closed, loops_only, unbound_loops}
use Rattle.mx_pool.proofs.Outcomes.{unbound_done, unbound_status}
use Rattle.mx_pool.proofs.looping.loop_on.Goals as goal

pub returns-in-Failed-clause-only : goal.returns-in-Failed-clause-only
returns-in-Failed-clause-only g c = unbound_status c.tell_about.result c.tell_about.ensures.status

pub returns-in-Failed-clause-closed : goal.returns-in-Failed-clause-closed
returns-in-Failed-clause-closed g c = λ done. absurd (unbound_done c.tell_about.result c.tell_about.ensures.status done)

pub returns-in-Failed-clause-told : goal.returns-in-Failed-clause-told
returns-in-Failed-clause-told g c =
    unbound_loops c.args.says.now c.args.address.now (g.E.Sink.written c.args.errors.now) (g.E.Sink.written c.tell_about.new.errors) (g.E.Sink.faults c.args.errors.now) (g.E.Sink.faults c.tell_about.new.errors)
    c.tell_about.result c.tell_about.ensures.status c.tell_about.ensures.told

pub returns-in-Done-clause-only : goal.returns-in-Done-clause-only
returns-in-Done-clause-only g c = loops_only c.serve_loops-looped.result c.looped_status-status.result c.looped_status-status.ensures

pub returns-in-Done-clause-closed : goal.returns-in-Done-clause-closed
returns-in-Done-clause-closed g c =
    loops_closed (g.Q.Ports.left c.serve_loops-looped.new.ports) (g.Q.Ports.faults c.listen.new.self) (g.Q.Ports.faults c.serve_loops-looped.new.ports) c.serve_loops-looped.result c.looped_status-status.result c.looped_status-status.ensures
    c.serve_loops-looped.ensures
