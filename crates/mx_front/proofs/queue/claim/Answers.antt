use Rattle.std.proofs.Common.{◌∙◌}
use Rattle.mx_front.proofs.Queues.{claims_again}
use Rattle.mx_front.proofs.queue.claim.Goals as goal

pub compare_exchange-found-requires : goal.compare_exchange-found-requires
compare_exchange-found-requires g c =
    let i = c.tries.invariant in
    (i.2 ∙ c.requires.table.0, c.requires.table.1, claims_again _ _ _ _ _ _ _ _ _ c.requires.claims i.3 i.4)
