use Rattle.mx_poll.specs.OfEngine.Shown.{site_of, stops_of}
use Rattle.mx_loop.proofs.Turning.{held_all, stands_all}
use Rattle.mx_loop.proofs.sessions.Sessions.look.Goals as goal

pub invariant_of-self : goal.invariant_of-self
invariant_of-self g c = record {
  held = held_all (site_of c.args.server.now.engine) (stops_of c.args.server.now.engine) c.args.self.now.pass c.look_on.new.pass c.look_on.ensures.grows c.args.self.now.all.items c.args.self.now.held;
}

pub returns-clause-stands : goal.returns-clause-stands
returns-clause-stands g c = λ i start h.
    stands_all (site_of c.args.server.now.engine) (stops_of c.args.server.now.engine) c.args.self.now.pass c.look_on.new.pass c.look_on.ensures.grows g.P.Port.left g.P.Port.written c.args.server.now.limit start
    c.args.self.now.all.items i c.args.self.now.held h
