use Rattle.std.proofs.Common.{filter, ap, ◌∙◌}
use Rattle.mx_snapshot.specs.Looks.{all_now}
use Rattle.mx_parts.specs.Picks.{is_kept_by}
use Rattle.mx_parts.specs.Readings.{sieve}
use Rattle.mx_parts.proofs.state.whole_part.Goals as goal

pub returns : goal.returns
returns c =
    let v = c.args.reading.now in
    c.in_ok-made.ensures
    ∙ ap (filter (is_kept_by v c.args.picker.now)) (ap all_now c.deref.ensures.value ∙ c.in_ok-state.ensures (sieve v) v.user.now)
