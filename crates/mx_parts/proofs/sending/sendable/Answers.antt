use Rattle.std.proofs.Common.{ap, ◌∙◌}
use Rattle.mx_window.specs.Windows.{between}
use Rattle.mx_event.specs.Shown.{position_of}
use Rattle.mx_lazy.specs.OfVisible.Walks.{all_sighted, sights}
use Rattle.mx_parts.specs.Gathers.{all_sent}
use Rattle.mx_parts.specs.Readings.{events_of, front_of, sieve}
use Rattle.mx_parts.proofs.Gathered.{all_sent_is}
use Rattle.mx_parts.proofs.sending.sendable.Goals as goal

pub returns : goal.returns
returns c =
    let v = c.args.reading.now in
    c.in_ok-made.ensures
    ∙ ap (all_sent (sieve v)) (ap all_sighted c.deref.ensures.value ∙ c.in_ok-seen.ensures
    ∙ ap (λ front. sights v.user.now (events_of v) front (between position_of c.args.low c.args.high (events_of v))) c.front-front.ensures.count)
    ∙ all_sent_is (sieve v) v.user.now (events_of v) (front_of v) c.args.low c.args.high
