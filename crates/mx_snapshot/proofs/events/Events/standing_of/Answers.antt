use Rattle.std.proofs.Common.{List, ap, filter, subst, sym, ◌∙◌}
use Rattle.std.proofs.lemmas.Result.{IfOk-weaker}
use Rattle.std.specs.BTreeMap as tree
use Rattle.std.specs.List.Sorted.{IsNonDecreasingBy}
use Rattle.mx_event.specs.Kinds.{is_of}
use Rattle.mx_event.specs.Shown.{position_of}
use Rattle.mx_event.specs.declared.event.Event.{Event}
use Rattle.mx_snapshot.specs.Events.{is_version}
use Rattle.mx_snapshot.specs.Lists.{itself, key_in, room_cmp}
use Rattle.mx_snapshot.specs.Looks.{all_now, looked}
use Rattle.mx_snapshot.specs.Standing.{standing_in}
use Rattle.mx_snapshot.proofs.Found.{test_rises}
use Rattle.mx_snapshot.proofs.RoomKeys.{typed_keys}
use Rattle.mx_snapshot.proofs.Standing.{none_typed, type_stands}
use Rattle.mx_snapshot.proofs.events.Events.standing_of.Goals as goal

pub last_keys-requires : goal.last_keys-requires
last_keys-requires c = λ key.
    let versions = c.self.inside.index.versions in
    subst (IsNonDecreasingBy itself)
    (sym (ap (λ o. key_in o key) c.in-Some.ensures ∙ typed_keys (tree.get room_cmp versions c.args.room.now) c.args.kind.now key))
    (test_rises position_of c.self.inside.events.items (is_version c.args.room.now c.args.kind.now key) _ c.self.invariant.0 (c.self.invariant.1.versions c.args.room.now c.args.kind.now key))

pub returns-in_ok-positions-in-Some : goal.returns-in_ok-positions-in-Some
returns-in_ok-positions-in-Some c =
    let es = c.self.inside.events.items in
    let versions = c.self.inside.index.versions in
    IfOk-weaker c.gather.result _ _ (λ made h. h ∙ ap (looked es) c.as_slice.ensures.value
    ∙ type_stands es c.args.room.now c.args.position c.self.invariant.0 c.args.kind.now c.in-Some.keys.now.entries
    (λ key. ap (λ o. key_in o key) c.in-Some.ensures ∙ typed_keys (tree.get room_cmp versions c.args.room.now) c.args.kind.now key ∙ c.self.invariant.1.versions c.args.room.now c.args.kind.now key)
    _ c.in_ok-positions-in-Some.ensures.ordered c.in_ok-positions-in-Some.ensures.found c.in_ok-positions-in-Some.ensures.rising
    ∙ ap (λ (l : List Event). filter (is_of c.args.kind.now) (standing_in c.args.room.now 0 c.args.position l)) c.self.view_is) c.gather.ensures

pub returns-in-None : goal.returns-in-None
returns-in-None c =
    let versions = c.self.inside.index.versions in
    ap all_now c.new.ensures.items
    ∙ none_typed c.self.inside.events.items c.args.room.now c.args.position c.self.invariant.0 c.args.kind.now
    (λ key. ap (λ o. key_in o key) c.in-None.ensures ∙ typed_keys (tree.get room_cmp versions c.args.room.now) c.args.kind.now key ∙ c.self.invariant.1.versions c.args.room.now c.args.kind.now key)
    ∙ ap (λ (l : List Event). filter (is_of c.args.kind.now) (standing_in c.args.room.now 0 c.args.position l)) c.self.view_is
