use Rattle.std.proofs.Common.{subst, sym}
use Rattle.mx_poll.specs.OfEngine.Exchanges.{first_of}
use Rattle.mx_poll.specs.OfEngine.Shown.{site_of, stops_of, stores_of}
use Rattle.mx_loop.specs.Stands.{Stands, sight}
use Rattle.mx_loop.specs.declared.line.State.{State}
use Rattle.mx_loop.proofs.session.Session.step.Goals as goal

pub returns-clause-stands : goal.returns-clause-stands
returns-clause-stands g c = λ start h.
    c.move_on-state.ensures.stands start
    (subst (λ (t : State). Stands (site_of c.args.server.now.engine) (stops_of c.args.server.now.engine) c.args.server.now.limit start (first_of (stores_of c.args.pass.now) c.args.self.now.line.seen)
    (sight g.P.Port.left g.P.Port.written c.args.self.now.line) t) (sym c.replace-state.ensures.value) h)
