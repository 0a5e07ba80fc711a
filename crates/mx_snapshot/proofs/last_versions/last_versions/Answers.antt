use Rattle.std.proofs.Common.{◌≡◌, Some, ap, subst}
use Rattle.std.proofs.lemmas.List.Sorted.{IsNonDecreasingBy-from_sort}
use Rattle.std.proofs.lemmas.Map.Views.{All-turn}
use Rattle.std.specs.BTreeMap as tree
use Rattle.std.specs.List.Sorted.{IsNonDecreasingBy}
use Rattle.std.specs.Map.Iter.{deref_pair}
use Rattle.std.specs.String.{string_bytes, string_cmp}
use Rattle.mx_snapshot.specs.Lists.{itself, key_in}
use Rattle.mx_snapshot.proofs.last_versions.last_versions.Goals as goal

pub push_kind-requires : goal.push_kind-requires
push_kind-requires c = λ key.
    let own = All-turn deref_pair (λ e. tree.get string_cmp c.args.kinds.now e.0 ≡ Some e.1) _ _ _ _ _ _ _ c.into_iter-entry-iterator.ensures.into_iter_gives.6
    c.into_iter-entry-iterator.ensures.into_iter_gives.0 c.kinds.yielded_by c.in-Some.is c.next.ensures.steps in
    subst (IsNonDecreasingBy itself) (ap (λ o. key_in o key) own) (c.requires (string_bytes c.in-Some.entry.0.now) key)

pub returns-clause-rising : goal.returns-clause-rising
returns-clause-rising c = IsNonDecreasingBy-from_sort itself _ c.sort_unstable.ensures.sorted
