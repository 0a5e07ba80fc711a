use Rattle.std.proofs.Common.{sym, ◌∙◌}
use Rattle.mx_create.proofs.Objects.{direct}
use Rattle.mx_create.proofs.contents.invite_content.Goals as goal

pub returns : goal.returns
returns c =
    direct c.args.ask.now _ _ _ _ (sym c.is_set.ensures ∙ c.if-not-is_set.false) c.new-members.ensures c.in_ok-put.ensures c.in_ok-text_value.ensures c.in_ok-put-2.ensures
