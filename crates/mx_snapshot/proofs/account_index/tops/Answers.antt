use Rattle.std.proofs.lemmas.List.Sorted.{IsNonDecreasingBy-from_sort}
use Rattle.mx_snapshot.specs.Lists.{itself}
use Rattle.mx_snapshot.proofs.account_index.tops.Goals as goal

pub returns-clause-rising : goal.returns-clause-rising
returns-clause-rising c = IsNonDecreasingBy-from_sort itself _ c.sort_unstable.ensures.sorted
