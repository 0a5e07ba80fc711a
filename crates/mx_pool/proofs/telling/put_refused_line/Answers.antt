use Rattle.std.proofs.Common.{◌++◌, codes, decimal, option_map, refl}
use Rattle.mx_pool.specs.Lines.{end_of}
use Rattle.mx_pool.proofs.Outcomes.{tells_more, tells_part}
use Rattle.mx_pool.proofs.telling.put_refused_line.Goals as goal

pub returns-in-Failed : goal.returns-in-Failed
returns-in-Failed g c =
    tells_part (g.E.Sink.written c.args.errors.now) (g.E.Sink.written c.put.new.self) (g.E.Sink.faults c.args.errors.now) (g.E.Sink.faults c.put.new.self)
    (codes "mxsync: journal: line ") (decimal c.args.number ++ end_of (option_map (λ s. s.now) c.args.about) (codes "\n")) c.in-Failed.ensures.bytes (c.in-Failed.ensures.cause refl)

pub returns-in-Done : goal.returns-in-Done
returns-in-Done g c =
    tells_more (g.E.Sink.written c.args.errors.now) (g.E.Sink.written c.put.new.self) (g.E.Sink.written c.put_digits.new.errors)
    (g.E.Sink.faults c.args.errors.now) (g.E.Sink.faults c.put.new.self) (g.E.Sink.faults c.put_digits.new.errors)
    (codes "mxsync: journal: line ") (decimal c.args.number ++ end_of (option_map (λ s. s.now) c.args.about) (codes "\n")) c.in-Done.ensures.bytes c.in-Done.ensures.count c.put_digits.ensures
