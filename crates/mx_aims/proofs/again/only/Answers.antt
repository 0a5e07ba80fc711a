use Rattle.std.proofs.Common.{sym, ap, ◌∙◌}
use Rattle.mx_aims.specs.Plans.{One}
use Rattle.mx_aims.proofs.Plans.{one_plan}
use Rattle.mx_aims.proofs.again.only.Goals as goal

pub returns-in-Some : goal.returns-in-Some
returns-in-Some c =
    ap One c.in_ok-weigh-in-Some.ensures ∙ one_plan c.args.drafts _ c.in-Some.draft c.requires (sym c.into_vec.ensures ∙ c.in-Some.ensures.items)
