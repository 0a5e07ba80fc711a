use Rattle.tests_reads.proofs.rests.seen.Goals as goal

pub view-requires-clause-stand : goal.view-requires-clause-stand
view-requires-clause-stand c = c.new-none.ensures c.args.rest.now.snapshot.now
