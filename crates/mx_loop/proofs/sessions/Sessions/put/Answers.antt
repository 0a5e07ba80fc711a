use Rattle.std.proofs.Common.{Some, IfSome, sym, subst}
use Rattle.mx_poll.proofs.OfEngine.Done.{all_self}
use Rattle.mx_poll.specs.OfEngine.Shown.{site_of, stops_of, stores_of}
use Rattle.mx_loop.specs.Stands.{Starts, sight}
use Rattle.mx_loop.proofs.Turning.{held_with, slice_get_other, slice_get_set}
use Rattle.mx_loop.proofs.sessions.Sessions.put.Goals as goal

pub invariant_of-self : goal.invariant_of-self
invariant_of-self g c =
    let pass = c.args.self.now.pass in record {
      held = held_with (site_of c.args.server.now.engine) (stops_of c.args.server.now.engine) pass pass (all_self (stores_of pass)) c.args.self.now.all.items c.args.which c.in_ok-session.session c.args.self.now.held
          (record { seen = c.in_ok-session.ensures.held.0; polled = c.in_ok-session.ensures.held.1 });
    }

pub returns-clause-others : goal.returns-clause-others
returns-clause-others g c = λ i never. slice_get_other c.args.self.now.all.items c.args.which i (Some c.in_ok-session.session) never

pub returns-clause-starts : goal.returns-clause-starts
returns-clause-starts g c =
    subst (λ o. IfSome o (λ p. IfSome p (λ s. Starts (site_of c.args.server.now.engine) (stops_of c.args.server.now.engine) c.args.server.now.limit (g.P.Port.left c.args.port) (g.P.Port.written c.args.port)
    (stores_of c.args.self.now.pass) s.line.seen (sight g.P.Port.left g.P.Port.written s.line) s.state))) (sym (slice_get_set c.args.self.now.all.items c.args.which (Some c.in_ok-session.session) c.requires.within)) c.in_ok-session.ensures.starts
