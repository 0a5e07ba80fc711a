use Rattle.std.proofs.Common.{refl}
use Rattle.mx_fold_rows.specs.Chains.{FirstSync, WithPage, GoesOn, NotBegun, PageOfBreak}

pub first_sync : FirstSync
first_sync = refl

pub with_page : WithPage
with_page = refl

pub goes_on : GoesOn
goes_on = refl

pub not_begun : NotBegun
not_begun = refl

pub page_of_break : PageOfBreak
page_of_break = refl
