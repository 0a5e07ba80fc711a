use Rattle.std.proofs.Common.{ap, ◌∙◌}
use Rattle.std.specs.Option.{is_some}
use Rattle.mx_api_user.proofs.Numbers.{some_number}
use Rattle.mx_api_user.proofs.sync_query.is_number.Goals as goal

pub returns : goal.returns
returns c = c.is_some.ensures ∙ ap is_some c.number_within.ensures.number ∙ some_number c.args.text.now
