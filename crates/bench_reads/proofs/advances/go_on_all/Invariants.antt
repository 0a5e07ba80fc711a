use Rattle.mx_core.specs.Covered.{covered}
use Rattle.bench_reads.specs.InPlace.{Knows}
use Rattle.bench_reads.proofs.advances.go_on_all.Given as goal

abbrev pub invariant-repeats : goal.invariant-repeats
invariant-repeats l = Knows (covered l.stock.book.history) l.known
