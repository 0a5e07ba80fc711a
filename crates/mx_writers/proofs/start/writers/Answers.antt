use Rattle.std.proofs.Common.{◌≡◌, ◌*◌, rules, replicate, ◌∙◌}
use Rattle.mx_writers.proofs.Openings.{opens_with}
use Rattle.mx_writers.proofs.start.writers.Goals as goal

pub new-made-requires : goal.new-made-requires
new-made-requires g c =
    let words : c.as_slice.result.now ≡ replicate (2 * c.len.result) 0 = search rules in
    opens_with _ _ _ _ _ _ c.in_ok-shards.ensures words (c.len.ensures ∙ c.requires.pens.count)
