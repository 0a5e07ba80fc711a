use Rattle.std.proofs.Common.{false, filter, refl, ap, ◌∙◌}
use Rattle.mx_lazy.specs.declared.picker.Pick.TheVariants as kind
use Rattle.mx_snapshot.specs.Looks.{all_now}
use Rattle.mx_parts.specs.Picks.{is_sent_by}
use Rattle.mx_parts.proofs.Picked.{sent_states}
use Rattle.mx_parts.proofs.state.later_part.Goals as goal

pub returns : goal.returns
returns c =
    let v = c.args.reading.now in
    let p = c.args.picker.now in
    c.in_ok-made.ensures
    ∙ ap (filter (is_sent_by v p c.args.position)) (ap all_now c.deref.ensures.value ∙ c.in_ok-later.ensures)
    ∙ sent_states v p c.front-front.ensures.placed false (kind.Later c.args.from 0 0 false false) c.args.position c.args.from refl
