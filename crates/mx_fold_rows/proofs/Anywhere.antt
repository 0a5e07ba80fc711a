use Rattle.std.proofs.Common.{refl, arith}
use Rattle.mx_ids.specs.Ids.{event_id_at, is_server_part}
use Rattle.mx_ids.specs.Mark.{marked_at}
use Rattle.mx_fold_rows.specs.Anywhere.{BroughtBack, FallsShort, FollowsSync, GoesAcross, GoesBack, ReachesIt, StaysRedacted}

pub goes_across : GoesAcross
goes_across front = refl

pub reaches_it : ReachesIt
reaches_it = (λ mine. tt, (λ mine. tt, (λ mine fits. omega arith, tt)))

pub falls_short : FallsShort
falls_short reach = absurd (omega (arith, reach.1.1.0 refl refl))

pub follows_sync : FollowsSync
follows_sync = (λ mine. tt, (λ mine. tt, (λ mine fits. refl, tt)))

pub goes_back : GoesBack
goes_back follow = let e = follow.1.1.0 refl refl in absurd cc

pub stays_redacted : StaysRedacted
unfolding event_id_at is_server_part marked_at
stays_redacted = refl

pub brought_back : BroughtBack
unfolding event_id_at is_server_part marked_at
brought_back = refl
