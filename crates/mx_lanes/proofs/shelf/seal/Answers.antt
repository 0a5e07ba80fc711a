use Rattle.std.proofs.Common.{◌++◌, [], ◌∷◌, length, append-nil, ap, ap₂, ◌∙◌}
use Rattle.mx_lanes.specs.Segments.{all_full, joined}
use Rattle.mx_lanes.proofs.Joined.{joined_more, all_more}
use Rattle.mx_lanes.proofs.shelf.seal.Goals as goal

pub returns-clause-full : goal.returns-clause-full
returns-clause-full g c =
    let size = ap length (c.in_ok-segment.ensures.made ∙ c.in_ok-copy.ensures) ∙ c.requires.length in
    ap all_full c.in_ok-push.ensures.ok ∙ all_more c.args.full.now c.in_ok-segment.segment c.requires.full size

pub returns-clause-same : goal.returns-clause-same
returns-clause-same g c =
    ap₂ (λ a b. joined a ++ b) c.in_ok-push.ensures.ok c.new-2.ensures ∙ append-nil (joined (c.args.full.now ++ c.in_ok-segment.segment ∷ [])) ∙ joined_more c.args.full.now c.in_ok-segment.segment
    ∙ ap (λ s. joined c.args.full.now ++ s) (c.in_ok-segment.ensures.made ∙ c.in_ok-copy.ensures)
