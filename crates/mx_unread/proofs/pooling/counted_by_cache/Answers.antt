use Rattle.mx_unread.proofs.Cached.{found_under, gone_on}
use Rattle.mx_unread.proofs.pooling.counted_by_cache.Goals as goal

pub counted_by-counted-requires-clause-of : goal.counted_by-counted-requires-clause-of
counted_by-counted-requires-clause-of c = (found_under c.args.snapshot.now c.args.key c.args.held.now.cache.entries c.in-Some.used.now c.in-Some.ensures.value c.requires.stand).0

pub counted_by-counted-requires-clause-stands : goal.counted_by-counted-requires-clause-stands
counted_by-counted-requires-clause-stands c = (found_under c.args.snapshot.now c.args.key c.args.held.now.cache.entries c.in-Some.used.now c.in-Some.ensures.value c.requires.stand).1

pub returns-clause-stand : goal.returns-clause-stand
returns-clause-stand c = gone_on c.args.snapshot.now c.args.key c.args.held.now.cache.entries c.counted_by-counted.new.used c.counted_by-counted.ensures.of c.counted_by-counted.ensures.stands c.requires.stand
