use Rattle.std.proofs.Common.{rules, ap}
use Rattle.mx_front.proofs.Allowed.{makes_at}
use Rattle.mx_front.proofs.front.Stream.make_pen.Goals as goal

pub split_seat-seat-requires : goal.split_seat-seat-requires
split_seat-seat-requires g c = (search rules, search rules, makes_at _ _ _ _ _ (ap (λ m. m.0.who) c.requires.maker) c.requires.writer)
