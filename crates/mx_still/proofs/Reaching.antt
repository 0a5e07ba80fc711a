-- What is found behind a reference is there where its value is.
use Rattle.std.proofs.Common.{◌≡◌, Option, Some, None, ap}
use Rattle.std.specs.Borrow.{Bor}
use Rattle.std.specs.Option.{is_some, option_copied}

pub present : {E : Type 0} (o : Option (Bor E)) (p : Option E) → option_copied o ≡ p → is_some o ≡ is_some p
present None p is = ap is_some is
present (Some e) p is = ap is_some is
