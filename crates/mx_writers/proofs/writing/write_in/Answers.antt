use Rattle.std.proofs.Common.{Ok, ap, ◌∙◌}
use Rattle.mx_writers.proofs.Lanes.{lane, storable}
use Rattle.mx_writers.proofs.writing.write_in.Goals as goal

pub store_block-requires-clause-lawful : goal.store_block-requires-clause-lawful
store_block-requires-clause-lawful g c =
    let shard = c.args.shard.now in
    storable _ _ _ _ _ _ _ _ _ _ _ g.met.F.Folds.lawful (lane _ _ _ _ _ shard.numbered shard.pen.complete shard.pen.lawful) shard.writes shard.folded c.prepare.ensures.decided
    (c.in-Ok-Items.is ∙ ap Ok c.in-Ok-Items.field-0-is)

pub store_block-requires-clause-lane : goal.store_block-requires-clause-lane
store_block-requires-clause-lane g c =
    let shard = c.args.shard.now in
    lane _ _ _ _ _ shard.numbered shard.pen.complete shard.pen.lawful
