use Rattle.std.proofs.Common.{List, ap, subst, sym, ◌∙◌}
use Rattle.std.proofs.lemmas.Result.{IfOk-weaker}
use Rattle.std.specs.List.Sorted.{IsNonDecreasingBy}
use Rattle.mx_event.specs.declared.event.Event.{Event}
use Rattle.mx_event.specs.Shown.{position_of}
use Rattle.mx_snapshot.specs.Events.{is_version}
use Rattle.mx_snapshot.specs.Lists.{itself, kind_in}
use Rattle.mx_snapshot.specs.Looks.{all_now, looked}
use Rattle.mx_snapshot.specs.Standing.{standing_in}
use Rattle.mx_snapshot.proofs.Found.{test_rises}
use Rattle.mx_snapshot.proofs.Standing.{none_stands, walk_stands}
use Rattle.mx_snapshot.proofs.events.Events.standing.Goals as goal

pub last_versions-requires : goal.last_versions-requires
last_versions-requires c = λ kind key.
    subst (IsNonDecreasingBy itself) (sym (ap (λ o. kind_in o kind key) c.in-Some.ensures.value))
    (test_rises position_of c.self.inside.events.items (is_version c.args.room.now kind key) _ c.self.invariant.0 (c.self.invariant.1.versions c.args.room.now kind key))

pub returns-in_ok-positions-in-Some : goal.returns-in_ok-positions-in-Some
returns-in_ok-positions-in-Some c =
    let es = c.self.inside.events.items in
    IfOk-weaker c.gather.result _ _ (λ made h. h ∙ ap (looked es) c.as_slice.ensures.value
    ∙ walk_stands es c.args.room.now c.args.position c.self.invariant.0 c.in-Some.kinds.now.entries (λ kind key. ap (λ o. kind_in o kind key) c.in-Some.ensures.value ∙ c.self.invariant.1.versions c.args.room.now kind key)
    _ c.in_ok-positions-in-Some.ensures.ordered.0 c.in_ok-positions-in-Some.ensures.ordered.1 c.in_ok-positions-in-Some.ensures.found c.in_ok-positions-in-Some.ensures.rising
    ∙ ap (λ (l : List Event). standing_in c.args.room.now 0 c.args.position l) c.self.view_is) c.gather.ensures

pub returns-in-None : goal.returns-in-None
returns-in-None c =
    ap all_now c.new.ensures.items
    ∙ none_stands c.self.inside.events.items c.args.room.now c.args.position c.self.invariant.0 (λ kind key. ap (λ o. kind_in o kind key) c.in-None.ensures.value ∙ c.self.invariant.1.versions c.args.room.now kind key)
    ∙ ap (λ (l : List Event). standing_in c.args.room.now 0 c.args.position l) c.self.view_is
