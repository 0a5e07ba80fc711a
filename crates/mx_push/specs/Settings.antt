-- What push rules read: the event as clients see it, and the room in which it stands.
use Rattle.std.specs.Prelude.{ℕ, List, Option, option_map}
use Rattle.mx_event.specs.declared.event.Event.{Event}
use Rattle.mx_push.specs.declared.setting.Context.{Context}

-- the user and its display name in the room, how many members are joined, the events of the room before the event, and
-- the texts of the room's id and of the event's
pub record Setting : Type 0 where
  pub user : List ℕ
  pub name : Option (List ℕ)
  pub joined : ℕ
  pub before : List Event
  pub room : List ℕ
  pub event_id : List ℕ

-- what a context says
abbrev pub setting_of : Context → Setting
setting_of c = record {
  user = c.user.now;
  name = option_map (λ t. t.now) c.name;
  joined = c.joined;
  before = c.state.now.events;
  room = c.room.now;
  event_id = c.event_id.now;
}
