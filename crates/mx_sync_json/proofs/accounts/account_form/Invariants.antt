use Rattle.std.proofs.Common.{◌≡◌, ◌++◌, map, drop}
use Rattle.mx_sync_json.specs.Objects.{pair_form}
use Rattle.mx_sync_json.proofs.accounts.account_form.Given as goal

abbrev pub invariant-entries : goal.invariant-entries
invariant-entries l = l.made.items ++ map pair_form (drop l.entry-index l.entry-items) ≡ map pair_form l.entry-items
