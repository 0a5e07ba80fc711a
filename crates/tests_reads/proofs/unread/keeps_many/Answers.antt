use Rattle.tests_reads.proofs.unread.keeps_many.Goals as goal

pub counts_many-requires-clause-stand : goal.counts_many-requires-clause-stand
counts_many-requires-clause-stand g c = c.new-kept.ensures c.args.known.now
