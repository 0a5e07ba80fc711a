use Rattle.std.proofs.Common.{refl}
use Rattle.mx_fold_rows.specs.Account.{FirstAccount, LaterAccount, NoAccount, NoType}

pub first_account : FirstAccount
first_account rules one two three = refl

pub later_account : LaterAccount
later_account rules one two three = refl

pub no_account : NoAccount
no_account rules one two three = refl

pub no_type : NoType
no_type rules one two three = refl
