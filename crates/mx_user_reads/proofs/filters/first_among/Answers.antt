use Rattle.std.proofs.Common.{◌≡◌, ◌∷◌, ◌+◌, ◌∙◌, drop, ap, arith}
use Rattle.std.proofs.lemmas.Grind.{common_steps}
use Rattle.mx_snapshot.specs.Looks.{all_now}
use Rattle.mx_user_reads.proofs.Walk.{one_on}
use Rattle.mx_user_reads.proofs.filters.first_among.Goals as goal

pub returns-in-Some : goal.returns-in-Some
returns-in-Some c =
    let cut : drop c.filters.entry-index c.args.filters.now ≡ c.entry-item.result ∷ drop (c.filters.entry-index + 1) c.args.filters.now = grind (arith, common_steps, c.entry-item.is, c.filters-test.true) in
    one_on c.args.user.now c.args.number _ _ _ _ (ap all_now cut) c.in-Some.ensures
    ∙ c.filters.invariant

pub filters-preserved : goal.filters-preserved
filters-preserved c =
    let cut : drop c.filters.entry-index c.args.filters.now ≡ c.entry-item.result ∷ drop (c.filters.entry-index + 1) c.args.filters.now = grind (arith, common_steps, c.entry-item.is, c.filters-test.true) in
    one_on c.args.user.now c.args.number _ _ _ _ (ap all_now cut) c.in_default.ensures
    ∙ c.filters.invariant
