use Rattle.tests_reads.proofs.rests.said.Goals as goal

pub change-requires-clause-stand : goal.change-requires-clause-stand
change-requires-clause-stand c = c.new-none.ensures c.args.rest.now.snapshot.now
