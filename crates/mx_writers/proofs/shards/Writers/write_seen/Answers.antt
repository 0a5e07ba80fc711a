use Rattle.std.proofs.Common.{ap, ◌∙◌}
use Rattle.mx_writers.specs.Writes.{told_by}
use Rattle.mx_writers.proofs.Noted.{was_told}
use Rattle.mx_writers.proofs.shards.Writers.write_seen.Goals as goal

pub returns-clause-told : goal.returns-clause-told
returns-clause-told g c =
    let watch = c.write_noted-answer.new.watch in
    let told = c.write_noted-answer.ensures.told in
    was_told g.G.Gate.told c.args.shard c.write_noted-answer.result watch.gate.now c.args.gate.now watch.told watch.heard (ap (λ x. x.now) told.0 ∙ c.new-watch.ensures.0) (told.1 ∙ ap (λ k. told_by k c.write_noted-answer.result) c.take_shard-taken.ensures.shard.0)
