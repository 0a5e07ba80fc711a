use Rattle.std.proofs.Common.{ap, ◌∙◌}
use Rattle.std.proofs.lemmas.Result.{IfOk-weaker}
use Rattle.mx_rules.specs.Defaults.{added}
use Rattle.mx_rules.proofs.predefined.put_defaults.Goals as goal

pub returns : goal.returns
returns c =
    let rules = c.args.rules.now in
    let user = c.args.user.now in
    IfOk-weaker c.put_builtins-2.result _ _ (λ done last i. record {
      override_rules = (c.in_ok-put_builtins.ensures ∙ ap (λ bs. added user bs rules.override_rules.entries) c.as_slice.ensures) i;
      content = c.in_ok-put_name_rule.ensures i;
      room = rules.room.entries;
      sender = rules.sender.entries;
      underride = (last ∙ ap (λ bs. added user bs rules.underride.entries) c.as_slice-2.ensures) i;
    }) c.put_builtins-2.ensures
