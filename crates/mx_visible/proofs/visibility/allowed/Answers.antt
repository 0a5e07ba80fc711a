use Rattle.std.proofs.Common.{◌∙◌, ap, ap₂}
use Rattle.mx_event.specs.Kinds.{has_key, member_type}
use Rattle.mx_event.specs.Lawful.{of_room}
use Rattle.mx_event.specs.Shown.{position_of}
use Rattle.mx_window.specs.Lasts.{last_of}
use Rattle.mx_window.specs.Windows.{between}
use Rattle.mx_visible.specs.Walks.{allows}
use Rattle.mx_visible.proofs.visibility.allowed.Goals as goal

pub returns : goal.returns
returns c =
    c.allows.ensures
    ∙ ap₂ (λ a b. allows a b c.args.later)
    (c.last_of.ensures ∙ ap (λ u. last_of (has_key member_type u) (between position_of 0 c.args.at (of_room c.args.room.now c.args.events.now))) c.as_str.ensures.text)
    c.last_of-2.ensures
