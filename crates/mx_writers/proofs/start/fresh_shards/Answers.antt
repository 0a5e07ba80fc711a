use Rattle.std.proofs.Common.{◌≡◌, Some, rules, option_to_list, length, sym, ap, ◌∙◌, arith}
use Rattle.mx_front.specs.Shown.{number, place_of_pen}
use Rattle.mx_writers.proofs.Openings.{taken, one_more}
use Rattle.mx_writers.proofs.start.fresh_shards.Goals as goal

pub overflow_cast-index : goal.overflow_cast-index
overflow_cast-index g c =
    let pen = taken c.args.pens _ _ c.shards.index _ _ c.shards.invariant.pens c.next.ensures.items c.unwrap-pen.ensures in
    let fresh : number c.unwrap-pen.result ≡ c.shards.index = (c.requires.pens.each c.shards.index _ pen.0).writer in
    let inv = c.unwrap-pen.type_inv in
    search (rules, fresh, inv)

pub shard-requires-clause-pen : goal.shard-requires-clause-pen
shard-requires-clause-pen g c =
    let pen = taken c.args.pens _ _ c.shards.index _ _ c.shards.invariant.pens c.next.ensures.items c.unwrap-pen.ensures in
    let fresh = c.requires.pens.each c.shards.index _ pen.0 in
    (fresh.writer, fresh.block)

pub shard-requires-clause-folds : goal.shard-requires-clause-folds
shard-requires-clause-folds g c =
    let pen = taken c.args.pens _ _ c.shards.index _ _ c.shards.invariant.pens c.next.ensures.items c.unwrap-pen.ensures in
    let fresh = c.requires.pens.each c.shards.index _ pen.0 in
    let fold = taken c.args.folds _ _ c.shards.index _ _ c.shards.invariant.folds c.next-in-shards.ensures.items c.unwrap-fold.ensures in
    (c.requires.folds.writers c.shards.index _ fold.0, c.requires.folds.stores c.shards.index _ fold.0 ∙ sym fresh.stores)

pub shard-requires-clause-lane : goal.shard-requires-clause-lane
shard-requires-clause-lane g c =
    let pen = taken c.args.pens _ _ c.shards.index _ _ c.shards.invariant.pens c.next.ensures.items c.unwrap-pen.ensures in
    sym (ap length (c.requires.pens.each c.shards.index _ pen.0).stores)

pub shards-preserved : goal.shards-preserved
shards-preserved g c =
    let pen = taken c.args.pens _ _ c.shards.index _ _ c.shards.invariant.pens c.next.ensures.items c.unwrap-pen.ensures in
    let fold = taken c.args.folds _ _ c.shards.index _ _ c.shards.invariant.folds c.next-in-shards.ensures.items c.unwrap-fold.ensures in
    let fresh = c.requires.pens.each c.shards.index _ pen.0 in
    let here : c.next.result ≡ Some c.unwrap-pen.result = c.unwrap-pen.ensures in
    let left : length (option_to_list c.next.result) ≡ 1 = ap (λ o. length (option_to_list o)) here in
    let left-2 : length (option_to_list c.next-in-shards.result) ≡ 1 = ap (λ o. length (option_to_list o)) c.unwrap-fold.ensures in
    record {
      pens = pen.1;
      pens_left = omega (arith, left, c.next.ensures.len, c.shards.invariant.pens_left);
      folds = fold.1;
      folds_left = omega (arith, left-2, c.next-in-shards.ensures.len, c.shards.invariant.folds_left);
      shards = one_more _ _ _ _ _ _ c.shards.invariant.shards (c.shard.ensures.0, ap place_of_pen c.shard.ensures.2 ∙ fresh.stream) c.push_reserved.ensures.items;
      filled = omega (arith, c.push_reserved.ensures.len, c.shards.invariant.filled);
      space = omega (arith, c.push_reserved.ensures.capacity, c.shards.invariant.space);
    }
