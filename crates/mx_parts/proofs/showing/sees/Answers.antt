use Rattle.std.proofs.Common.{ap₂, ◌∙◌}
use Rattle.mx_folding.specs.Visible.{is_visible}
use Rattle.mx_view.specs.Readings.{viewer_of}
use Rattle.mx_parts.proofs.Shown.{own_room}
use Rattle.mx_parts.proofs.showing.sees.Goals as goal

pub returns : goal.returns
returns c =
    c.visible.ensures
    ∙ ap₂ (λ es front. is_visible (viewer_of c.args.reading.now.user.now) es front c.args.event.now)
    (own_room c.args.reading.now c.args.event.now c.requires) c.front-front.ensures.count
