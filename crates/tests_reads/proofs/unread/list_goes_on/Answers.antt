use Rattle.tests_reads.proofs.unread.list_goes_on.Goals as goal

pub events-init : goal.events-init
events-init g c = c.new-kept.ensures c.args.known.now
