use Rattle.std.proofs.Common.{◌∙◌, ap}
use Rattle.mx_account.specs.Entries.{position_of}
use Rattle.mx_window.specs.Windows.{between}
use Rattle.mx_snapshot.specs.Accounts.{filters_of}
use Rattle.mx_snapshot.specs.Looks.{all_now}
use Rattle.mx_user_reads.specs.Filters.{first_filter}
use Rattle.mx_user_reads.proofs.Walk.{first_is}
use Rattle.mx_user_reads.proofs.filters.first_filter.Goals as goal

pub returns : goal.returns
returns c =
    c.first_among.ensures
    ∙ ap (first_filter c.args.user.now c.args.number) (ap all_now c.deref.ensures.value ∙ c.in_ok-filters.ensures
    ∙ ap (λ u. between position_of 0 c.front-front.result (filters_of u c.args.accounts.now)) c.as_str.ensures.text)
    ∙ first_is c.args.user.now c.args.number c.args.accounts.now c.front-front.result c.front-front.ensures.placed c.front-front.ensures.count
