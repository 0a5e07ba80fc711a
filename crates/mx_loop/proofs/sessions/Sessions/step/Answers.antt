use Rattle.std.proofs.Common.{Some, length, refl, ap, ◌∙◌}
use Rattle.std.proofs.lemmas.Option.{slice_get_read}
use Rattle.mx_poll.specs.OfEngine.Shown.{site_of, stops_of}
use Rattle.mx_loop.proofs.Turning.{held_with, slice_get_other, stands_with}
use Rattle.mx_loop.proofs.sessions.Sessions.step.Goals as goal

pub invariant_of-self : goal.invariant_of-self
invariant_of-self g c = record {
  held = held_with (site_of c.args.server.now.engine) (stops_of c.args.server.now.engine) c.args.self.now.pass c.step.new.pass c.step.ensures.grows c.args.self.now.all.items c.args.which c.step.new.self c.args.self.now.held
      (record { seen = c.step.ensures.seen; polled = c.step.ensures.polled });
}

pub returns-in-Some-clause-others : goal.returns-in-Some-clause-others
returns-in-Some-clause-others g c = λ i never. slice_get_other c.args.self.now.all.items c.args.which i (Some c.step.new.self) never

pub returns-in-Some-clause-stands : goal.returns-in-Some-clause-stands
returns-in-Some-clause-stands g c = λ i start h.
    stands_with (site_of c.args.server.now.engine) (stops_of c.args.server.now.engine) c.args.self.now.pass c.step.new.pass c.step.ensures.grows g.P.Port.left g.P.Port.written c.args.server.now.limit start
    c.args.self.now.all.items c.args.which c.in-Some.session c.step.new.self c.requires.within
    (slice_get_read c.args.self.now.all.items (length c.args.self.now.all.items) c.args.which c.index_mut.result.now refl c.requires.within c.index_mut.ensures.value ∙ ap Some c.in-Some.is)
    c.args.self.now.held (c.step.ensures.stands start) i h
