use Rattle.std.proofs.Common.{◌≡◌, ◌-◌, rules, leb, ltb, sym, subst, length, take, drop}
use Rattle.std.proofs.lemmas.List.{take_rest}
use Rattle.std.proofs.lemmas.List.Sorted.{IsPartitionPoint-from_clause, IsPartitionedBy-leb, IsPartitionedBy-ltb, IsNonDecreasingBy-drop}
use Rattle.std.specs.List.Sorted.{IsNonDecreasingBy}
use Rattle.mx_auth.specs.Placing.{sent_position}
use Rattle.mx_auth.specs.declared.places.SentAt.{SentAt}
use Rattle.mx_auth.proofs.Sorted.{sent_at_those}
use Rattle.mx_auth.proofs.places.those_at.Goals as goal

pub returns : goal.returns
returns c =
    let ps = c.args.items.now in
    let from = c.partition_point-from.result in
    let at = c.args.at in
    let rest = take (length ps - from) (drop from ps) in
    let cut : rest ≡ drop from ps = take_rest ps from in
    let sorted-rest = subst (IsNonDecreasingBy sent_position) (sym cut) (IsNonDecreasingBy-drop sent_position from ps c.requires) in
    let point = IsPartitionPoint-from_clause (λ (p : SentAt). ltb p.at at) _ _ c.partition_point-from.ensures.partitioned (IsPartitionedBy-ltb sent_position _ at c.requires) (λ a r q k. search rules) in
    let point-rest = IsPartitionPoint-from_clause (λ (p : SentAt). leb p.at at) _ _ c.partition_point-count.ensures.partitioned (IsPartitionedBy-leb sent_position _ at sorted-rest) (λ a r q k. search rules) in
    sent_at_those ps rest at from c.partition_point-count.result c.partition_point-from.ensures.bound point cut c.partition_point-count.ensures.bound point-rest
