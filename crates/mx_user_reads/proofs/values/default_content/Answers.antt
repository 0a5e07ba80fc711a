use Rattle.std.proofs.Common.{◌∙◌, ap}
use Rattle.std.proofs.lemmas.Result.{IfOk-weaker}
use Rattle.mx_rules.specs.Writing.{content_of}
use Rattle.mx_user_reads.proofs.values.default_content.Goals as goal

pub returns : goal.returns
returns c = IfOk-weaker c.to_json-content.result _ _ (λ j is. is ∙ ap content_of c.in_ok-rules.ensures) c.to_json-content.ensures
