use Rattle.std.proofs.Common.{◌++◌, sym, ap}
use Rattle.tests_sync.proofs.concerns.snapshot.Goals as goal

pub advance-requires-clause-begins : goal.advance-requires-clause-begins
advance-requires-clause-begins c = (c.args.events.items, ap (λ l. l ++ c.args.events.items) (sym c.new-known.ensures.events))

pub advance-requires-2-clause-begins : goal.advance-requires-2-clause-begins
advance-requires-2-clause-begins c = (c.args.receipts.items, ap (λ l. l ++ c.args.receipts.items) (sym c.new-known.ensures.receipts))

pub advance-requires-3-clause-begins : goal.advance-requires-3-clause-begins
advance-requires-3-clause-begins c = (c.args.accounts.items, ap (λ l. l ++ c.args.accounts.items) (sym c.new-known.ensures.accounts))
