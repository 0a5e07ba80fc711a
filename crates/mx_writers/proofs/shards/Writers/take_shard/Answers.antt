use Rattle.std.proofs.Common.{ap}
use Rattle.mx_writers.proofs.Hands.{hand_rest}
use Rattle.mx_writers.proofs.shards.Writers.take_shard.Goals as goal

pub exchange-requires : goal.exchange-requires
exchange-requires g c = (c.requires.table, (_, hand_rest _ _ _ _ (ap (λ m. m.1) c.requires.turn.is) c.from.ensures))
