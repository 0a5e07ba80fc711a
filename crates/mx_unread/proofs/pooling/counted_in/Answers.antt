use Rattle.std.proofs.Common.{sym, subst}
use Rattle.mx_unread.proofs.Cached.{keyed_both, keyed_keys, keyed_stand}
use Rattle.mx_unread.specs.Kept.{StandAll}
use Rattle.mx_unread.proofs.pooling.counted_in.Goals as goal

pub counted_by_cache-counted-requires-clause-stand : goal.counted_by_cache-counted-requires-clause-stand
counted_by_cache-counted-requires-clause-stand c =
    keyed_both c.args.snapshot.now c.in_ok-held.held.cache.entries c.in_ok-held.ensures.keyed (subst (StandAll c.args.snapshot.now) (sym c.in_ok-held.ensures.all) c.requires.stand)

pub put-requires : goal.put-requires
put-requires c = keyed_keys c.args.snapshot.now c.drop_oldest.new.self.cache.entries (c.drop_oldest.ensures c.args.snapshot.now c.counted_by_cache-counted.ensures.stand)

pub returns-clause-stand : goal.returns-clause-stand
returns-clause-stand c =
    subst (StandAll c.args.snapshot.now) (sym c.put.ensures) (keyed_stand c.args.snapshot.now c.drop_oldest.new.self.cache.entries (c.drop_oldest.ensures c.args.snapshot.now c.counted_by_cache-counted.ensures.stand))
