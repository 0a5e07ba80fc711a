use Rattle.std.proofs.Common.{◌≡◌, ◌+◌, ◌≤◌, drop}
use Rattle.std.specs.Vec.{vec_len, vec_capacity}
use Rattle.std.specs.Vec.Iter.{into_iter_items, into_iter_len}
use Rattle.mx_front.specs.Shown.{place_of}
use Rattle.mx_writers.specs.Shown.{IsShardOf}
use Rattle.mx_writers.specs.Start.{AreShards}
use Rattle.mx_writers.proofs.start.fresh_shards.Given as goal

abbrev pub invariant-shards : goal.invariant-shards
invariant-shards g l = record {
  pens : into_iter_items l.pens ≡ drop l.index l.fn.pens;
  pens_left : into_iter_len l.pens + l.index ≡ l.count;
  folds : into_iter_items l.folds ≡ drop l.index l.fn.folds;
  folds_left : into_iter_len l.folds + l.index ≡ l.count;
  shards : AreShards (IsShardOf {g = g.F.Folds} {h = g.F.Item.Placed}) (place_of l.stream) l.index l.shards.items;
  filled : vec_len l.shards ≡ l.index;
  space : l.count ≤ vec_capacity l.shards;
}
