use Rattle.std.proofs.Common.{refl}
use Rattle.mx_fold_rows.specs.Limits.{LastTen, RestOnePage, RestJustFits, PageOfThree, NoTimeline, LaterState, FullState, NothingNew, NeverThere}

pub last_ten : LastTen
last_ten = refl

pub rest_one_page : RestOnePage
rest_one_page = refl

pub rest_just_fits : RestJustFits
rest_just_fits = refl

pub page_of_three : PageOfThree
page_of_three = refl

pub no_timeline : NoTimeline
no_timeline = refl

pub later_state : LaterState
later_state = refl

pub full_state : FullState
full_state = refl

pub nothing_new : NothingNew
nothing_new = refl

pub never_there : NeverThere
never_there = refl
