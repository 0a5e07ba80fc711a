use Rattle.std.proofs.Common.{◌≡◌, drop}
use Rattle.mx_rules.specs.Reading.{add_all}
use Rattle.mx_rules.proofs.reading.add_all.Given as goal

abbrev pub invariant-items : goal.invariant-items
invariant-items g l = add_all g.T.Test.shown (drop l.item-index l.items) l.rules.entries ≡ add_all g.T.Test.shown l.items l.fn.rules.entries
