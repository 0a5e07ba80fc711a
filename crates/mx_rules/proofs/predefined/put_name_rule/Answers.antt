use Rattle.std.proofs.Common.{◌∙◌}
use Rattle.std.proofs.lemmas.Result.{IfOk-weaker}
use Rattle.indexmap.specs.IndexMap.{insert_entry}
use Rattle.mx_rules.specs.Edits.{is_id}
use Rattle.mx_rules.proofs.predefined.put_name_rule.Goals as goal

pub returns : goal.returns
returns c = IfOk-weaker c.set_rule.result _ _ (λ done set. set ∙ λ i. insert_entry is_id c.args.rules.now.entries ((c.from_string-id.ensures ∙ c.in_ok-from_str.ensures.ok) i) (c.in_ok-name_rule.ensures i)) c.set_rule.ensures.ok
