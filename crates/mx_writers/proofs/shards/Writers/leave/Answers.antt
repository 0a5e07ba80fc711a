use Rattle.std.proofs.Common.{◌≡◌, ◌*◌, rules, arith}
use Rattle.mx_front.specs.Shown.{writers_of}
use Rattle.mx_writers.proofs.Hands.{leaves_from}
use Rattle.mx_writers.proofs.shards.Writers.leave.Goals as goal

pub store-requires : goal.store-requires
store-requires g c =
    let words : c.args.self.now.table.shared.table_id.words ≡ 2 * writers_of c.args.self.now.stream = c.args.self.now.sized.0 in (
      search rules,
      omega (arith, words, c.serving_word.ensures, c.requires.writer),
      leaves_from _ _ _ _ _ _ _ _ _ _ _ _ c.requires.seat c.exchange.ensures.3 c.from.ensures c.serving_word.ensures c.requires.shard,
    )
