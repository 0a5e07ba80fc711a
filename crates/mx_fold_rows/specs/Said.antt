-- How the rows read contents: by the text that an event's transaction repeats, since the checker computes nothing of JSON.
-- Of the events of the rows it is what their contents say.
use Rattle.std.specs.Prelude.{◌≡◌, ℕ, ◌^◌, ◌-◌, cond, List, Option, None, option_and_then, option_map, unwrap_or}
use Rattle.std.specs.List.{AllByRecursion}
use Rattle.mx_ids.specs.Ids.{event_id_at}
use Rattle.mx_ids.specs.User.{server_of}
use Rattle.mx_ids.specs.declared.event_id.EventId.{EventId}
use Rattle.mx_event.specs.Kinds.{is_redaction}
use Rattle.mx_event.specs.Redaction.{redacted}
use Rattle.mx_event.specs.declared.event.Event.{Event}
use Rattle.mx_event.specs.declared.event.Txn.{Txn}
use Rattle.mx_folding.specs.Visible.{SharedSince}
use Rattle.mx_view.specs.Readings.{Contents, contents, membership_as, setting_as}
use Rattle.mx_view.specs.Reads.{ReadAlike}
use Rattle.mx_fold_rows.specs.Events.{member, setting, redaction}
use Rattle.mx_fold_rows.specs.Events.{
  long_room,
  left_room,
  shared_room,
  hidden_room,
  renamed_room,
  redacted_room,
  taken_back,
  three_users,
  banned_room,
  named_room,
  invited_room,
}

abbrev pub said_text : Event → Option (List ℕ)
said_text e = option_map (λ (t : Txn). t.id) e.txn

abbrev pub said_id : Event → Option EventId
said_id e = option_and_then (event_id_at (2 ^ 64 - 1) (server_of e.sender)) (said_text e)

abbrev pub said : Contents
said = record {
  membership = λ e. option_and_then membership_as (said_text e);
  setting = λ e. unwrap_or (option_map setting_as (said_text e)) SharedSince;
  names = λ e. cond (is_redaction e) (option_map (λ (id : EventId). id.at) (said_id e)) None;
  red = redacted;
}

abbrev pub SaysMembership : Type 0
SaysMembership = (p : ℕ) (user sender text : List ℕ) → contents.membership (member p user sender text) ≡ said.membership (member p user sender text)

abbrev pub SaysSetting : Type 0
SaysSetting = (p : ℕ) (text : List ℕ) → contents.setting (setting p text) ≡ said.setting (setting p text)

abbrev pub SaysNames : Type 0
SaysNames = (p : ℕ) (id : List ℕ) → contents.names (redaction p id) ≡ said.names (redaction p id)

-- what is read of an event is what its contents say
abbrev pub Says : Event → Type 0
Says = ReadAlike contents said

-- so it is of the events of the rows' rooms, and a reply over them says the same by both
pub record RoomsSay : Type 0 where
  pub long : AllByRecursion Says long_room
  pub left : AllByRecursion Says left_room
  pub shared : AllByRecursion Says shared_room
  pub hidden : AllByRecursion Says hidden_room
  pub renamed : AllByRecursion Says renamed_room
  pub redactions : AllByRecursion Says redacted_room
  pub taken : AllByRecursion Says taken_back
  pub three : AllByRecursion Says three_users
  pub banned : AllByRecursion Says banned_room
  pub named : AllByRecursion Says named_room
  pub invited : AllByRecursion Says invited_room
