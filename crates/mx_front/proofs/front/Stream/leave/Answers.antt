use Rattle.std.proofs.Common.{rules}
use Rattle.mx_front.proofs.Allowed.{leaves_at}
use Rattle.mx_front.proofs.front.Stream.leave.Goals as goal

pub store-requires : goal.store-requires
store-requires g c = let r = c.requires.turn.1 in (search rules, search rules, leaves_at _ _ _ _ _ _ _ r.hand r.turn r.stands r.count r.spares)
