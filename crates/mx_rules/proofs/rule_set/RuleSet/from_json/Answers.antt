use Rattle.std.proofs.Common.{}
use Rattle.mx_rules.proofs.Readings.{rules_from}
use Rattle.mx_rules.proofs.rule_set.RuleSet.from_json.Goals as goal

pub returns : goal.returns
returns c = rules_from _ _ _ c.add_lists.new.rules c.in_ok-read.read _ c.new-rules.ensures c.in-Some.ensures c.in_ok-read.ensures c.then_some.ensures
