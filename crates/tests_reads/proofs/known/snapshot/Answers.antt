use Rattle.std.proofs.Common.{◌++◌, sym, ap, ◌∙◌}
use Rattle.mx_event.specs.declared.event.Event.{Event}
use Rattle.mx_lanes.specs.Parts.{Taken}
use Rattle.tests_reads.proofs.known.snapshot.Goals as goal

pub advance-requires-clause-begins : goal.advance-requires-clause-begins
advance-requires-clause-begins c = (c.in_ok-parts.parts.items, ap (λ l. l ++ c.in_ok-parts.parts.items) (sym c.new-known.ensures.events))

pub advance-requires-2-clause-begins : goal.advance-requires-2-clause-begins
advance-requires-2-clause-begins c = (c.args.receipts.items, ap (λ l. l ++ c.args.receipts.items) (sym c.new-known.ensures.receipts))

pub advance-requires-3-clause-begins : goal.advance-requires-3-clause-begins
advance-requires-3-clause-begins c = (c.args.accounts.items, ap (λ l. l ++ c.args.accounts.items) (sym c.new-known.ensures.accounts))

pub returns : goal.returns
returns c = c.in_ok-advance.ensures.ok ∙ ap (λ (p : Taken Event). p.items) c.in_ok-parts.ensures
