use Rattle.std.proofs.Common.{List, Some, None, ap, ◌∙◌}
use Rattle.mx_event.specs.declared.event.Event.{Event}
use Rattle.mx_event.specs.Shown.{position_of}
use Rattle.mx_event.specs.Lawful.{of_room}
use Rattle.mx_event.specs.Kinds.{has_key}
use Rattle.mx_window.specs.Windows.{between}
use Rattle.mx_window.specs.Lasts.{last_of}
use Rattle.mx_snapshot.specs.Events.{is_version, versions}
use Rattle.mx_snapshot.proofs.Found.{test_rises}
use Rattle.mx_snapshot.proofs.Looked.{few_steps, last_version}
use Rattle.std.specs.Option.{option_copied}
use Rattle.mx_snapshot.proofs.events.Events.last_of_counted.Goals as goal

pub last_to-requires : goal.last_to-requires
last_to-requires c = test_rises position_of c.self.inside.events.items (is_version c.args.room.now c.args.kind.now c.args.key.now) _ c.self.invariant.0 (c.version_positions-positions.ensures ∙ c.self.invariant.1.versions c.args.room.now c.args.kind.now c.args.key.now)

pub returns-in_err-position-clause-found : goal.returns-in_err-position-clause-found
returns-in_err-position-clause-found c =
    ap option_copied c.from_residual.ensures
    ∙ last_version c.self.inside.events.items c.args.room.now c.args.kind.now c.args.key.now c.args.last c.version_positions-positions.result.now None c.self.invariant.0 (c.version_positions-positions.ensures ∙ c.self.invariant.1.versions c.args.room.now c.args.kind.now c.args.key.now) c.in_err-position.ensures.found
    ∙ ap (λ (l : List Event). last_of (has_key c.args.kind.now c.args.key.now) (between position_of 0 c.args.last (of_room c.args.room.now l))) c.self.view_is

pub returns-clause-found : goal.returns-clause-found
returns-clause-found c =
    c.at.ensures.item
    ∙ last_version c.self.inside.events.items c.args.room.now c.args.kind.now c.args.key.now c.args.last c.version_positions-positions.result.now (Some c.in_ok-position.position) c.self.invariant.0 (c.version_positions-positions.ensures ∙ c.self.invariant.1.versions c.args.room.now c.args.kind.now c.args.key.now) c.in_ok-position.ensures.found
    ∙ ap (λ (l : List Event). last_of (has_key c.args.kind.now c.args.key.now) (between position_of 0 c.args.last (of_room c.args.room.now l))) c.self.view_is

pub returns-in_err-position-clause-cost : goal.returns-in_err-position-clause-cost
returns-in_err-position-clause-cost c =
    few_steps _ c.args.last c.version_positions-positions.result.now (versions c.args.room.now c.args.kind.now c.args.key.now c.self.inside.events.items) _
    (c.version_positions-positions.ensures ∙ c.self.invariant.1.versions c.args.room.now c.args.kind.now c.args.key.now) (ap (versions c.args.room.now c.args.kind.now c.args.key.now) c.self.view_is) c.in_err-position.ensures.cost

pub returns-clause-cost : goal.returns-clause-cost
returns-clause-cost c =
    few_steps _ c.args.last c.version_positions-positions.result.now (versions c.args.room.now c.args.kind.now c.args.key.now c.self.inside.events.items) _
    (c.version_positions-positions.ensures ∙ c.self.invariant.1.versions c.args.room.now c.args.kind.now c.args.key.now) (ap (versions c.args.room.now c.args.kind.now c.args.key.now) c.self.view_is) c.in_ok-position.ensures.cost
