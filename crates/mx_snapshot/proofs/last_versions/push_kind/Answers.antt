use Rattle.std.proofs.Common.{◌≡◌, Some, ap, subst, sym, ◌∙◌}
use Rattle.std.proofs.lemmas.Map.Views.{All-turn}
use Rattle.std.specs.BTreeMap as tree
use Rattle.std.specs.List.Sorted.{IsNonDecreasingBy}
use Rattle.std.specs.Map.Iter.{deref_pair}
use Rattle.std.specs.String.{string_bytes, string_cmp}
use Rattle.mx_snapshot.specs.Lists.{itself, listed}
use Rattle.mx_snapshot.proofs.last_versions.push_kind.Goals as goal

pub push_last-requires : goal.push_last-requires
push_last-requires c =
    let own = All-turn deref_pair (λ e. tree.get string_cmp c.args.keys.now e.0 ≡ Some e.1) _ _ _ _ _ _ _ c.into_iter-entry-iterator.ensures.into_iter_gives.6
    c.into_iter-entry-iterator.ensures.into_iter_gives.0 c.keys.yielded_by c.in-Some.is c.next.ensures.steps in
    subst (IsNonDecreasingBy itself) (ap listed own ∙ sym c.as_slice.ensures.value) (c.requires (string_bytes c.in-Some.entry.0.now))
