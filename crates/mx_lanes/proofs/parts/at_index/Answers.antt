use Rattle.std.proofs.Common.{◌++◌, ◌/◌, ◌%◌, ◌-◌, ◌*◌, [], length, slice_get, sym, ap, ◌∙◌}
use Rattle.mx_lanes.specs.Segments.{joined}
use Rattle.mx_lanes.proofs.Joined.{by_place, small_rest, at_full, at_tail, rejoined}
use Rattle.mx_lanes.proofs.parts.at_index.Goals as goal

pub returns-then-place-full : goal.returns-then-place-full
returns-then-place-full g c =
    let i = c.args.index in let full = c.args.full.now in let tail = c.args.tail.now in
    c.at_place.ensures ∙ ap (λ l. slice_get l (i % 1024)) c.segment_at.ensures
    ∙ sym (at_full full tail (i / 1024) (i % 1024) [] c.requires c.if-place-full.true (small_rest i)) ∙ ap (slice_get (joined full ++ tail)) (by_place i)

pub returns-else-place-full : goal.returns-else-place-full
returns-else-place-full g c =
    let i = c.args.index in let full = c.args.full.now in let tail = c.args.tail.now in
    c.at_place-else-place-full.ensures ∙ sym (at_tail full tail (i - length full * 1024) c.requires) ∙ ap (slice_get (joined full ++ tail)) (rejoined i (length full) c.if-place-full.false)
