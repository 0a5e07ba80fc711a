use Rattle.std.proofs.Common.{◌≡◌, ◌<◌, ◌||◌, rules, leb, true, false, IfSome, sym, subst, ap, ◌∙◌, length, map, get_or, [], arith}
use Rattle.std.proofs.lemmas.List.Sorted.{IsPartitionPoint-from_clause, IsPartitionedBy-leb}
use Rattle.std.specs.List.Sorted.{IsNonDecreasingBy, IsPartitionPoint}
use Rattle.mx_auth.specs.Placing.{AreNamed, PlaceList, any_place, place_of, sent_position}
use Rattle.mx_auth.specs.declared.places.SentAt.{SentAt}
use Rattle.mx_auth.proofs.Numbering.{any_put, put_named}
use Rattle.mx_auth.proofs.Sorted.{put_sorted, when_ok}
use Rattle.mx_auth.proofs.places.Places.put.Goals as goal

pub invariant_of-self : goal.invariant_of-self
invariant_of-self c =
    let ps = c.self.inside.items.items in
    let i = c.partition_point-index.result in
    let at = c.args.at in
    let names = c.self.inside.senders.names in
    let one : SentAt = record { at = at; by = c.unwrap-by.result } in
    let same : c.deref.result.now ≡ ps = c.deref.ensures.value in
    let sorted = subst (IsNonDecreasingBy sent_position) (sym same) c.self.invariant.0 in
    let point = IsPartitionPoint-from_clause (λ (p : SentAt). leb p.at at) _ _ c.partition_point-index.ensures.partitioned (IsPartitionedBy-leb sent_position _ at sorted) (λ a r q k. search rules) in
    let some = subst (λ (l : PlaceList). 0 < l.spare) (sym c.self.view_is) c.requires.spare in
    let named = subst (λ o. IfSome o (λ n. (n < length names) × (get_or names n [] ≡ c.args.sender.now))) c.unwrap-by.ensures c.number.ensures.named in (
      subst (IsNonDecreasingBy sent_position) (sym (when_ok _ _ _ _ _ c.unwrap.ensures c.insert.ensures.items))
          (put_sorted ps i one c.self.invariant.0 (omega (arith, c.partition_point-index.ensures.bound, ap length same))
          (subst (λ xs. IsPartitionPoint (λ (p : SentAt). leb p.at at ≡ true) (λ (p : SentAt). leb p.at at ≡ false) xs i) same point)),
      omega (arith, some, c.self.invariant.1, c.insert.ensures.capacity, when_ok _ _ _ _ _ c.unwrap.ensures c.insert.ensures.len),
      subst (AreNamed (length names)) (sym (when_ok _ _ _ _ _ c.unwrap.ensures c.insert.ensures.items)) (put_named (length names) ps i one named.0 c.self.invariant.2),
    )

pub returns-clause-items : goal.returns-clause-items
returns-clause-items c = λ test.
    let names = c.self.inside.senders.names in
    let one : SentAt = record { at = c.args.at; by = c.unwrap-by.result } in
    let named = subst (λ o. IfSome o (λ n. (n < length names) × (get_or names n [] ≡ c.args.sender.now))) c.unwrap-by.ensures c.number.ensures.named in
    ap (λ ss. any_place test (map (place_of names) ss)) (when_ok _ _ _ _ _ c.unwrap.ensures c.insert.ensures.items)
    ∙ any_put names test c.self.inside.items.items c.partition_point-index.result one c.args.sender.now named.1
    ∙ ap (λ (l : PlaceList). test c.args.at c.args.sender.now || any_place test l.items) c.self.view_is
