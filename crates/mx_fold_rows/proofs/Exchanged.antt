use Rattle.std.proofs.Common.{refl}
use Rattle.mx_fold_rows.specs.Exchanged.{FirstIsTold, NextIsTold, Begins, TakesPage, PassesPages, PassesReplies, GoesOnFrom, BeginsAnew, HasNotBegun}

pub first_is_told : FirstIsTold
first_is_told = refl

pub next_is_told : NextIsTold
next_is_told = refl

pub begins : Begins
begins = refl

pub takes_page : TakesPage
takes_page = refl

pub passes_pages : PassesPages
passes_pages = refl

pub passes_replies : PassesReplies
passes_replies = refl

pub goes_on_from : GoesOnFrom
goes_on_from = refl

pub begins_anew : BeginsAnew
begins_anew = refl

pub has_not_begun : HasNotBegun
has_not_begun = refl
