-- What is known of a draft before its room judges it.
use Rattle.std.specs.Prelude.{◌≡◌, Bool, Option}
use Rattle.mx_ids.specs.User.{server_of}
use Rattle.mx_event.specs.Drafts.{drafted}
use Rattle.mx_event.specs.Forms.{fits}
use Rattle.mx_event.specs.declared.draft.Draft.{Draft}
use Rattle.mx_event.specs.declared.event.Event.{Event}
use Rattle.mx_room.specs.declared.txn_key.TxnKey.{TxnKey}
use Rattle.mx_room.specs.Keys.{txn_of}

-- the draft that makes an event
abbrev pub draft_of : Event → Draft
draft_of e = record { room = e.room; kind = e.kind; state_key = e.state_key; sender = e.sender; content = e.content; ts = e.ts; txn = e.txn }

-- an event that a draft makes, with the key of its transaction, and whether it is small enough
pub record IsWeighed (e : Event) (key : Option TxnKey) (is_small : Bool) : Type 0 where
  pub made : drafted (draft_of e) ≡ e
  pub keyed : txn_of key ≡ e.txn
  pub sized : is_small ≡ fits (server_of e.sender) e
