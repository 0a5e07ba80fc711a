use Rattle.std.proofs.Common.{◌≡◌, ◌++◌, map}
use Rattle.mx_rules.specs.Writing.{entry_json}
use Rattle.mx_rules.proofs.writing.push_entries.Given as goal

abbrev pub invariant-rules : goal.invariant-rules
invariant-rules g l = l.all.items ++ map (entry_json g.T.Test.asks) l.id-iterator ≡ l.fn.all.items ++ map (entry_json g.T.Test.asks) l.rules.entries
