use Rattle.std.proofs.Common.{}
use Rattle.mx_create.proofs.Sets.{adds_one}
use Rattle.mx_create.proofs.invited.add.Goals as goal

pub returns-in_ok-insert : goal.returns-in_ok-insert
returns-in_ok-insert c = rw c.in-Some.is (adds_one c.args.strangers.now c.insert.new.self c.in-Some.user c.in_ok-insert.ensures.updates)
