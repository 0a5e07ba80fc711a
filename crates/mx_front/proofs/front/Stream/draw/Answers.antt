use Rattle.std.proofs.Common.{rules, ◌≡◌, arith}
use Rattle.mx_front.proofs.Allowed.{reads_at}
use Rattle.mx_front.proofs.Meetings.{drawable}
use Rattle.mx_front.proofs.front.Stream.draw.Goals as goal

pub load-next-requires : goal.load-next-requires
load-next-requires g c = (search rules, search rules, reads_at _ _ _ _ _)

pub fetch_add-last-requires : goal.fetch_add-last-requires
fetch_add-last-requires g c =
    let n : c.from.result ≡ c.args.n = c.from.ensures in
    let stops : c.args.self.now.table.shared.key.stop ≡ c.args.self.now.stop = c.args.self.now.stops in (
      search rules,
      search rules,
      drawable _ _ _ _ _ _ _ c.args.pen.now.seat.me _ c.load-next.ensures.2.0 c.args.pen.now.writes c.requires.free
          (omega (arith, stops, c.if-next-self.false)) (omega (arith, n, c.requires.count.0)) (omega (arith, n, c.requires.count.1)) (omega (arith, n, c.requires.space)),
    )
