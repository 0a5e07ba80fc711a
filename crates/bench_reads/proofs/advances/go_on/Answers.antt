use Rattle.std.proofs.Common.{ℕ, Ok, ap}
use Rattle.mx_core.specs.Covered.{covered}
use Rattle.bench_reads.proofs.Stocks.{begins_take, knows_first}
use Rattle.bench_reads.proofs.advances.go_on.Goals as goal

pub advance-requires-clause-begins : goal.advance-requires-clause-begins
advance-requires-clause-begins c =
    begins_take c.args.known.now.events (covered c.args.stock.now.book.history) c.in_ok-parts.parts.items c.args.front c.requires.knows.events c.requires.later c.in_ok-parts.ensures.items

pub returns-clause-knows : goal.returns-clause-knows
returns-clause-knows c =
    knows_first {E = ℕ} (Ok tt) (covered c.up_to.new.self.book.history) (covered c.args.stock.now.book.history) c.in_ok-parts.parts.items c.args.front _
    (ap covered c.up_to.ensures.kept) c.in_ok-parts.ensures.items c.requires.knows.receipts c.requires.knows.accounts c.in_ok-advance.ensures.ok
