use Rattle.std.proofs.Common.{◌≡◌, ◌*◌, arith}
use Rattle.mx_front.specs.Shown.{writers_of}
use Rattle.mx_writers.proofs.Allowed.{enters_at}
use Rattle.mx_writers.proofs.shards.Writers.new_seat.Goals as goal

pub load_new_seat-requires : goal.load_new_seat-requires
load_new_seat-requires g c =
    let words : c.args.self.now.table.shared.table_id.words ≡ 2 * writers_of c.args.self.now.stream = c.args.self.now.sized.0 in
    (omega (arith, words, c.requires.writer), enters_at _ _ _ _)
