use Rattle.std.proofs.Common.{◌≡◌, take}
use Rattle.mx_rules.specs.Defaults.{added}
use Rattle.mx_rules.proofs.predefined.put_builtins.Given as goal

abbrev pub invariant-builtins : goal.invariant-builtins
invariant-builtins l = l.rules.entries ≡ added l.user (take l.builtin-index l.builtins) l.fn.rules.entries
