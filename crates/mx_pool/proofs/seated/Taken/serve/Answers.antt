use Rattle.mx_pool.specs.Connections.{change, ends}
use Rattle.mx_serve.specs.OfEngine.Shown.{stores_of}
use Rattle.mx_serve.specs.Tallies.{tally}
use Rattle.mx_serve.proofs.OfEngine.Done.{all_self}
use Rattle.mx_pool.proofs.Gathered.{at_ties, served_now, ties_at}
use Rattle.mx_pool.proofs.seated.Taken.serve.Goals as goal

pub serve_connection-ended-requires : goal.serve_connection-ended-requires
serve_connection-ended-requires g c = record { ties = ties_at c.args.server.now g.N.Seating.service g.N.Seating.places c.args.self.pass c.requires.server c.args.self.ties }

pub invariant_of-result-clause-ties : goal.invariant_of-result-clause-ties
invariant_of-result-clause-ties g c = at_ties c.args.server.now g.N.Seating.service g.N.Seating.places c.serve_connection-ended.new.pass c.requires.server c.serve_connection-ended.ensures.ties

pub invariant_of-result-clause-served : goal.invariant_of-result-clause-served
invariant_of-result-clause-served g c =
    let seat = c.args.self in
    let done = c.serve_connection-ended in
    let before = ends (g.S.Source.left c.args.input.now) (g.K.Sink.written c.args.output.now) (g.S.Source.faults c.args.input.now) (g.K.Sink.faults c.args.output.now) in
    let after = ends (g.S.Source.left done.new.input) (g.K.Sink.written done.new.output) (g.S.Source.faults done.new.input) (g.K.Sink.faults done.new.output) in
    served_now c.args.server.now g.N.Seating.service g.N.Seating.places g.N.Seating.is_kind (stores_of seat.pass) (stores_of done.new.pass) seat.share.amount
    (record {
      calls = done.ensures.served.0;
      marks = done.result.marks;
      ended = done.result.end;
      told = change before after;
      seen = change (stores_of seat.pass) (stores_of done.new.pass);
      reading = change (g.C.Clock.last c.args.clock.now) (g.C.Clock.last done.new.clock);
      tally = change (tally seat.pass (g.C.Clock.readings c.args.clock.now)) (tally done.new.pass (g.C.Clock.readings done.new.clock));
    })
    c.requires.server c.requires.kind done.ensures.served.1.begins
    (λ kind. record {
      kind = kind;
      served = done.ensures.served.1;
      read_faults = done.ensures.reads;
      write_faults = done.ensures.writes;
      valid = done.ensures.valid;
      begins = all_self (stores_of done.new.pass);
    })
    seat.owed
