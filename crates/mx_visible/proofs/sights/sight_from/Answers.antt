use Rattle.std.proofs.Common.{◌∙◌}
use Rattle.std.proofs.lemmas.Result.{IfOk-weaker}
use Rattle.mx_snapshot.specs.Looks.{all_now}
use Rattle.mx_visible.proofs.Walked.{walked_sights}
use Rattle.mx_visible.proofs.sights.sight_from.Goals as goal

pub returns : goal.returns
returns c = λ past rest front is. IfOk-weaker c.walk_through.result _ _ (λ made h. h ∙ walked_sights c.args.user.now front past rest (all_now c.args.window.now) _ _ _ is) c.walk_through.ensures
