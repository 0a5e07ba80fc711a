use Rattle.std.proofs.Common.{◌≡◌}
use Rattle.mx_push.specs.Notifies.{by_pattern, first_match, judged}
use Rattle.mx_push.specs.Settings.{setting_of}
use Rattle.mx_push.proofs.decision.by_pattern.Given as goal

abbrev pub invariant-rules : goal.invariant-rules
invariant-rules l = first_match (judged (by_pattern (setting_of l.context) l.event) l.id-iterator) ≡ first_match (judged (by_pattern (setting_of l.context) l.event) l.rules.entries)
