use Rattle.std.proofs.Common.{◌≡◌, ◌*◌, ap, refl, ◌∙◌, arith}
use Rattle.mx_front.proofs.Queues.{not_served}
use Rattle.mx_front.specs.Shown.{writers_of}
use Rattle.mx_writers.proofs.Allowed.{claims_at, comes_at}
use Rattle.mx_writers.proofs.Hands.{claimed_from, has_turn}
use Rattle.mx_writers.proofs.shards.Writers.begin.Goals as goal

pub claim-ticket-requires-clause-table : goal.claim-ticket-requires-clause-table
claim-ticket-requires-clause-table g c =
    let words : c.args.self.now.table.shared.table_id.words ≡ 2 * writers_of c.args.self.now.stream = c.args.self.now.sized.0 in
    (c.new_seat-seat.ensures.table, omega (arith, words, c.ticket_word-word.ensures, c.requires.writer))

pub claim-ticket-requires-clause-claims : goal.claim-ticket-requires-clause-claims
claim-ticket-requires-clause-claims g c =
    let slots : c.args.self.now.table.shared.table_id.slots ≡ writers_of c.args.self.now.stream = c.args.self.now.sized.1 in
    record { allowed = λ old. claims_at _ _ _ _ _ _ _ _ (omega (arith, slots, c.requires.writer)) c.ticket_word-word.ensures; stays = λ old found m ne told. told.1 ne }

pub come-requires-clause-table : goal.come-requires-clause-table
come-requires-clause-table g c =
    let words : c.args.self.now.table.shared.table_id.words ≡ 2 * writers_of c.args.self.now.stream = c.args.self.now.sized.0 in
    (c.claim-ticket.ensures.table ∙ c.new_seat-seat.ensures.table, omega (arith, words, c.serving_word.ensures, c.requires.writer))

pub come-requires-clause-comes : goal.come-requires-clause-comes
come-requires-clause-comes g c =
    let has = claimed_from _ _ _ _ _ _ c.new_seat-seat.ensures.rests (c.claim-ticket.ensures.claimed.0 refl c.args.writer c.ticket_word-word.ensures) refl in
    let writer : c.claim-ticket.new.seat.me.0.writer ≡ c.args.writer = ap (λ m. m.0.writer) has in record {
      allowed = comes_at _ _ _ _ _ _ (omega (arith, writer, c.serving_word.ensures));
      stays = λ found m ne told. told.1 (not_served _ _ _ (ap (λ m. m.0.turn) has) ne);
    }

pub returns-clause-turn : goal.returns-clause-turn
returns-clause-turn g c =
    let has = claimed_from _ _ _ _ _ _ c.new_seat-seat.ensures.rests (c.claim-ticket.ensures.claimed.0 refl c.args.writer c.ticket_word-word.ensures) refl in
    has_turn _ _ _ _ _ _ has (c.come.ensures.came.0 (ap (λ m. m.0.turn) has)) c.claim-ticket.ensures.below
