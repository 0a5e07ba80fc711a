use Rattle.std.proofs.Common.{◌++◌, codes, refl}
use Rattle.mx_pool.proofs.Outcomes.{tells_more, tells_part}
use Rattle.mx_pool.proofs.telling.tell_address.Goals as goal

pub returns-in-Failed : goal.returns-in-Failed
returns-in-Failed g c =
    tells_part (g.E.Sink.written c.args.errors.now) (g.E.Sink.written c.put.new.self) (g.E.Sink.faults c.args.errors.now) (g.E.Sink.faults c.put.new.self)
    (codes "mxsync: listening on ") (c.args.address.now ++ c.args.says.now) c.in-Failed.ensures.bytes (c.in-Failed.ensures.cause refl)

pub returns-in-Done : goal.returns-in-Done
returns-in-Done g c =
    tells_more (g.E.Sink.written c.args.errors.now) (g.E.Sink.written c.put.new.self) (g.E.Sink.written c.put_about.new.errors)
    (g.E.Sink.faults c.args.errors.now) (g.E.Sink.faults c.put.new.self) (g.E.Sink.faults c.put_about.new.errors)
    (codes "mxsync: listening on ") (c.args.address.now ++ c.args.says.now) c.in-Done.ensures.bytes c.in-Done.ensures.count c.put_about.ensures
