use Rattle.std.proofs.Common.{rules}
use Rattle.mx_front.proofs.Allowed.{lends_at, borrows_at}
use Rattle.mx_front.proofs.front.Stream.lend.Goals as goal

pub split_seat-right-requires : goal.split_seat-right-requires
split_seat-right-requires g c = (search rules, search rules, lends_at _ _ _ _)

pub join_seat-requires : goal.join_seat-requires
join_seat-requires g c = (search rules, search rules, search rules, search rules, borrows_at _ _ _ _ _ _)
