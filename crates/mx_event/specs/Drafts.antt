-- The event that a draft makes, before it has a position.
use Rattle.std.specs.Prelude.{is_some, codes}
use Rattle.mx_json.specs.Fields.{field}
use Rattle.mx_event.specs.declared.draft.Draft.{Draft}
use Rattle.mx_event.specs.declared.event.Event.{Event}

abbrev pub drafted : Draft → Event
drafted d = record {
  id = record { at = 0 };
  room = d.room;
  kind = d.kind;
  state_key = d.state_key;
  sender = d.sender;
  content = d.content;
  ts = d.ts;
  txn = d.txn;
  has_url = is_some (field (codes "url") d.content);
}
