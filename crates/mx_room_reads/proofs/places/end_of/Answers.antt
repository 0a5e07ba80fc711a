use Rattle.std.proofs.Common.{ℕ, List, ap, ◌∙◌}
use Rattle.mx_window.specs.Windows.{between}
use Rattle.mx_event.specs.Kinds.{member_type}
use Rattle.mx_event.specs.Shown.{position_of}
use Rattle.mx_snapshot.specs.Events.{versions}
use Rattle.mx_snapshot.specs.Looks.{all_now}
use Rattle.mx_ask.proofs.Sync.Stays.{end_none, end_some}
use Rattle.mx_room_reads.proofs.places.end_of.Goals as goal

pub returns-then-join-eq0 : goal.returns-then-join-eq0
returns-then-join-eq0 c =
    end_none
    c.args.user.now c.args.room.now c.args.snapshot.now.events c.front-front.ensures.placed c.front-front.result c.last_join-join.result
    c.front-front.ensures.count c.last_join-join.ensures c.if-join-eq0.true

pub returns : goal.returns
returns c =
    let events = c.args.snapshot.now.events in
    end_some
    c.args.user.now c.args.room.now events c.front-front.ensures.placed c.front-front.result c.last_join-join.result c.first_at.result
    (all_now c.deref.result.now)
    c.front-front.ensures.count c.last_join-join.ensures c.if-join-eq0.false
    (ap all_now c.deref.ensures.value ∙ c.in_ok-after.ensures
    ∙ ap (λ (user : List ℕ). between position_of c.last_join-join.result c.front-front.result
    (versions c.args.room.now member_type user events)) c.as_str.ensures.text)
    c.first_at.ensures
