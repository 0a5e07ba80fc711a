use Rattle.std.proofs.Common.{◌∙◌, Bool, Some, None, if◌then◌else◌, sym, ap}
use Rattle.mx_ask.specs.declared.said.Said.TheVariants as said
use Rattle.mx_rules.specs.Defaults.{default_rules}
use Rattle.mx_rules.specs.Writing.{content_of}
use Rattle.mx_user_reads.specs.Told.{told}
use Rattle.mx_user_reads.proofs.values.told_default.Goals as goal

pub returns-in_ok-default_content : goal.returns-in_ok-default_content
returns-in_ok-default_content c =
    ap said.Content c.in_ok-default_content.ensures
    ∙ ap (λ (b : Bool). told (if b then Some (content_of (default_rules c.args.user.now)) else None)) (sym c.if-has_default.true ∙ c.has_default.ensures)
