use Rattle.std.proofs.Common.{rules, arith, ◌≡◌, ltb, slice_index_or, ap, ◌∙◌}
use Rattle.std.proofs.lemmas.List.{get_or_default}
use Rattle.std.proofs.lemmas.List.Sorted.{IsPartitionPoint-from_clause, IsPartitionedBy-ltb}
use Rattle.mx_room.specs.declared.rooms.Room.{Room}
use Rattle.mx_room.proofs.Finding.{at_of, rises_by, missed_at, state_of}
use Rattle.mx_room.proofs.rooms.index_of.Goals as goal
use Rattle.mx_room.proofs.rooms.index_of.Goals.{else-index-rooms-via-then-index-rooms+else-rooms-index, else-index-rooms-via-else-index-rooms}

pub returns-then-rooms-index : goal.returns-then-rooms-index
returns-then-rooms-index c =
    let rs = c.args.rooms.now in
    let i = c.partition_point-index.result in
    let here : (d : Room) → (slice_index_or rs i d).at ≡ c.args.at = λ d. ap at_of (get_or_default rs i d c.index-rooms-index.result c.if-index-rooms.true) ∙ c.if-rooms-index.true in
    (c.if-index-rooms.true, here, λ d. state_of c.args.at rs i d c.requires c.if-index-rooms.true (here d))

pub returns-else-index-rooms : goal.returns-else-index-rooms
returns-else-index-rooms c =
    let rs = c.args.rooms.now in
    let at = c.args.at in
    let point = IsPartitionPoint-from_clause (λ (r : Room). ltb r.at at) rs c.partition_point-index.result c.partition_point-index.ensures.partitioned (IsPartitionedBy-ltb at_of rs at (rises_by rs c.requires)) (λ a r q k. search rules) in
    missed_at at rs c.partition_point-index.result c.requires point (elim c.else-index-rooms.branch [
      | else-index-rooms-via-then-index-rooms+else-rooms-index w ↦ (λ d l is. w.if-rooms-index.false (ap at_of (get_or_default rs c.partition_point-index.result w.index-rooms-index.result d l) ∙ is))
      | else-index-rooms-via-else-index-rooms w ↦ (λ d l is. omega (arith, w.if-index-rooms.false, l))
    ])
