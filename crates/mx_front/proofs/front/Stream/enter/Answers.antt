use Rattle.std.proofs.Common.{ap, refl}
use Rattle.mx_front.proofs.Allowed.{claims_at, comes_at}
use Rattle.mx_front.proofs.Queues.{not_served}
use Rattle.mx_front.proofs.Seats.{entered}
use Rattle.mx_front.proofs.front.Stream.enter.Goals as goal

pub claim-ticket-requires-clause-claims : goal.claim-ticket-requires-clause-claims
claim-ticket-requires-clause-claims g c = record { allowed = λ old. claims_at _ _ _ _ _ _; stays = λ old found m ne told. told.1 ne }

pub come-requires-clause-comes : goal.come-requires-clause-comes
come-requires-clause-comes g c = record {
  allowed = comes_at _ _ _ _ _;
  stays = λ found m ne told. told.1 (not_served _ _ _ (ap (λ x. x.0.turn) (c.claim-ticket.ensures.claimed.0 refl)) ne);
}

pub returns-clause-entered : goal.returns-clause-entered
returns-clause-entered g c =
    let has = c.claim-ticket.ensures.claimed.0 refl in
    entered _ _ _ _ c.requires.bare has (c.come.ensures.came.0 (ap (λ x. x.0.turn) has)) c.claim-ticket.ensures.below
