use Rattle.std.proofs.Common.{◌≡◌}
use Rattle.mx_push.specs.Notifies.{by_id, first_match, judged}
use Rattle.mx_push.proofs.decision.by_id.Given as goal

abbrev pub invariant-rules : goal.invariant-rules
invariant-rules l = first_match (judged (by_id l.wanted l.event) l.id-iterator) ≡ first_match (judged (by_id l.wanted l.event) l.rules.entries)
