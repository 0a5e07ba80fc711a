use Rattle.std.proofs.Common.{rules}
use Rattle.mx_front.proofs.Allowed.{shares_at}
use Rattle.mx_front.proofs.front.Stream.pass.Goals as goal

pub split_seat-seat-requires : goal.split_seat-seat-requires
split_seat-seat-requires g c = (search rules, search rules, shares_at _ _ _ _)
