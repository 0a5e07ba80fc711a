use Rattle.std.proofs.Common.{sym, subst, ◌∙◌}
use Rattle.mx_core.specs.History.{Begins}
use Rattle.mx_snapshot.specs.declared.snapshot.Snapshot.{Snapshot}
use Rattle.mx_sync.proofs.Knowing.{receipts_last}
use Rattle.mx_sync.proofs.known.Known.advance_receipts.Goals as goal

pub invariant_of-self-else-is_err : goal.invariant_of-self-else-is_err
invariant_of-self-else-is_err c =
    receipts_last c.tallies_last.ensures c.rules_last.ensures c.self.inside.snapshot c.args.receipts.items c.advance-grown.new.self c.advance-grown.result
    (record { events = c.front-events.ensures.placed; receipts = c.front-receipts.ensures.placed; accounts = c.front-accounts.ensures.placed })
    c.requires.placed (subst (λ (s : Snapshot). Begins s.receipts c.args.receipts.items) (sym c.self.view_is) c.requires.begins)
    c.advance-grown.ensures.ok (sym c.is_err.ensures.value ∙ c.if-is_err.false) c.self.inside.tallies c.self.invariant

-- after want of memory no tally is kept, and no rules
pub invariant_of-self : goal.invariant_of-self
invariant_of-self c = c.new.ensures _

pub invariant_of-self-then-is_err-2 : goal.invariant_of-self-then-is_err-2
invariant_of-self-then-is_err-2 c = c.new.ensures _
