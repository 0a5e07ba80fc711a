use Rattle.std.proofs.Common.{◌+◌}
use Rattle.bench_reads.proofs.Stocks.{apart, one_pushed, placed_more}
use Rattle.bench_reads.proofs.stock.Stock.put_next.Goals as goal

pub store-requires-clause-apart : goal.store-requires-clause-apart
store-requires-clause-apart c =
    apart c.args.self.now.book.history c.reserve.new.self.history c.front-front.result c.push.new.self c.in_ok-event.field-0 c.front-front.ensures.front c.in_ok-reserve.ensures.kept.history
    (one_pushed c.push.new.self c.new-items.result c.in_ok-event.field-0 c.new-items.ensures c.in_ok-push.ensures.ok)

pub invariant_of-self-2-clause-placed : goal.invariant_of-self-2-clause-placed
invariant_of-self-2-clause-placed c =
    placed_more c.args.self.now.book.history c.reserve.new.self.history c.store.new.self.history 0 (c.front-front.result + 1) c.push.new.self c.in_ok-event.field-0 c.args.self.now.placed
    c.in_ok-reserve.ensures.kept.history c.store.ensures.history (one_pushed c.push.new.self c.new-items.result c.in_ok-event.field-0 c.new-items.ensures c.in_ok-push.ensures.ok) c.in_ok-event.ensures
