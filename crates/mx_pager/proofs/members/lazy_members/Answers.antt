use Rattle.std.proofs.Common.{ap, map, subst, sym, ◌∙◌}
use Rattle.mx_parts.specs.Picks.{key_pair}
use Rattle.mx_parts.specs.Readings.{events_of, front_of, sieve}
use Rattle.mx_parts.specs.Sections.{AreListed}
use Rattle.mx_snapshot.specs.Looks.{all_now}
use Rattle.mx_pager.specs.Pages.{shown_at}
use Rattle.mx_pager.proofs.Named.{members_listed, named_is}
use Rattle.mx_pager.proofs.members.lazy_members.Goals as goal

pub all_shown-requires-clause-listed : goal.all_shown-requires-clause-listed
all_shown-requires-clause-listed c =
    let v = c.args.reading.now in
    let sent = all_now c.args.events.now in
    let same = ap all_now c.deref-2.ensures.value ∙ c.in_ok-among.ensures (sieve v) v.user.now
    ∙ named_is v sent c.deref.result.now (ap (map key_pair) c.deref.ensures.value ∙ c.in_ok-keys.ensures) c.args.position in
    subst (AreListed v) (sym same) (members_listed v c.front-front.ensures.placed c.args.position sent)

pub returns : goal.returns
returns c =
    let v = c.args.reading.now in
    let sent = all_now c.args.events.now in
    let same = ap all_now c.deref-2.ensures.value ∙ c.in_ok-among.ensures (sieve v) v.user.now
    ∙ named_is v sent c.deref.result.now (ap (map key_pair) c.deref.ensures.value ∙ c.in_ok-keys.ensures) c.args.position in
    c.in_ok-made.ensures ∙ ap (shown_at v.user.now (events_of v) (front_of v)) same
