use Rattle.mx_core.specs.Covered.{covered}
use Rattle.bench_reads.proofs.Stocks.{knows_none}
use Rattle.bench_reads.proofs.advances.measure_advances.Goals as goal

pub go_on-requires-clause-knows : goal.go_on-requires-clause-knows
go_on-requires-clause-knows g c =
    knows_none (covered c.grow.new.self.book.history) c.new-known.result c.new-known.ensures.events c.new-known.ensures.receipts c.new-known.ensures.accounts
