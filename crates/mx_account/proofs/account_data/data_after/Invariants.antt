use Rattle.std.proofs.Common.{◌≡◌, ◌-◌, drop, length, filter, fold, map}
use Rattle.mx_account.specs.Data.{data_of, set_entry}
use Rattle.mx_account.specs.Entries.{is_of, pair_now}
use Rattle.mx_account.proofs.account_data.data_after.Given as goal

abbrev pub invariant-entries : goal.invariant-entries
invariant-entries l = fold set_entry (map pair_now l.latest.entries) (filter (is_of l.user l.wanted) (drop l.at l.list.items)) ≡ data_of l.user l.wanted (drop l.fn.position l.fn.list.items)

abbrev pub decreases-entries : goal.decreases-entries
decreases-entries l = length l.list.items - l.at
