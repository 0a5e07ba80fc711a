use Rattle.mx_sync.proofs.answering.reply.Goals as goal

-- no tallies stand for every snapshot
pub reply_with-made-requires-clause-stand : goal.reply_with-made-requires-clause-stand
reply_with-made-requires-clause-stand c = c.new-none.ensures c.args.snapshot.now
