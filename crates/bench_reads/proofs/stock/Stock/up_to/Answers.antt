use Rattle.bench_reads.proofs.Stocks.{first_covered, stand_first}
use Rattle.bench_reads.proofs.stock.Stock.up_to.Goals as goal

pub returns-clause-items : goal.returns-clause-items
returns-clause-items c =
    first_covered c.args.self.now.book.history c.front.result c.args.front c.in_ok-up_to.field-0 c.front.ensures.front c.if-front.false c.in_ok-up_to.ensures.found

pub returns-clause-placed : goal.returns-clause-placed
returns-clause-placed c =
    stand_first c.args.self.now.book.history c.args.front c.in_ok-up_to.field-0.items c.args.self.now.placed
    (first_covered c.args.self.now.book.history c.front.result c.args.front c.in_ok-up_to.field-0 c.front.ensures.front c.if-front.false c.in_ok-up_to.ensures.found)
