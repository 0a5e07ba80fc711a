use Rattle.std.proofs.Common.{◌++◌, filter, ap, ap₂, ◌∙◌}
use Rattle.mx_snapshot.specs.Looks.{all_now}
use Rattle.mx_parts.specs.Picks.{is_early_by, is_sent_by}
use Rattle.mx_parts.specs.Readings.{sieve}
use Rattle.mx_parts.proofs.Early.{parted_is}
use Rattle.mx_parts.proofs.state.named_part.Goals as goal

pub returns : goal.returns
returns c =
    let v = c.args.reading.now in
    let p = c.args.picker.now in
    c.in_ok-append.ensures
    ∙ ap₂ (λ l m. l ++ m)
    (c.in_ok-made.ensures ∙ ap (filter (is_early_by v p c.args.from)) (ap all_now c.deref.ensures.value ∙ c.in_ok-under.ensures (sieve v) v.user.now))
    (ap all_now c.deref-3.ensures.value ∙ c.in_ok-rest.ensures ∙ ap (filter (is_sent_by v p c.args.position)) (ap all_now c.deref-2.ensures.value ∙ c.in_ok-later.ensures))
    ∙ parted_is v p c.args.from c.args.position c.args.keys.now c.front-front.ensures.placed c.requires.covers
