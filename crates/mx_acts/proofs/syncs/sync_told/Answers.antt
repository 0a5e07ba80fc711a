use Rattle.std.proofs.Common.{Err, ap, refl}
use Rattle.mx_acts.proofs.syncs.sync_told.Goals as goal

pub returns-in-Err-TokenAhead-clause-told : goal.returns-in-Err-TokenAhead-clause-told
returns-in-Err-TokenAhead-clause-told c = rw ((c.in-Err-TokenAhead.ensures.ahead c.in-Err-TokenAhead.asked c.in-Err-TokenAhead.front).0 (ap Err c.in-Err-TokenAhead.field-0-is)) refl
