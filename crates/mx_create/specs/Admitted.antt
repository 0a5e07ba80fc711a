-- Whether a block of drafts creates a room of a writer, and the events that it puts there.
use Rattle.std.specs.Prelude.{◌≡◌, ℕ, ◌<◌, ◌≤◌, ◌==◌, ◌&&◌, List, [], ◌∷◌, ◌++◌, map, length, Bool, Option, Some, None, IsSome, Result, Ok, Err, if◌then◌else◌, is_none, is_some, nat_le, nat_lt}
use Rattle.std.specs.List.{AllByRecursion, list_all}
use Rattle.std.specs.Option.{option_or}
use Rattle.mx_ids.specs.User.{server_of}
use Rattle.mx_event.specs.Denied.{denied}
use Rattle.mx_event.specs.Drafts.{drafted}
use Rattle.mx_event.specs.Forms.{fits}
use Rattle.mx_event.specs.declared.draft.Draft.{Draft}
use Rattle.mx_event.specs.declared.event.Event.{Event}
use Rattle.mx_core.specs.Limits.{most_drawn}
use Rattle.mx_create.specs.declared.fault.CreateFault.{CreateFault}
use Rattle.mx_create.specs.declared.fault.CreateFault.TheVariants as faults

-- a state event of a room that has no writer and no position yet (both are 0), sent in no transaction
pub record IsUnplaced (d : Draft) : Type 0 where
  pub key : IsSome d.state_key
  pub room : d.room ≡ record { writer = 0; at = 0 }
  pub txn : d.txn ≡ None

-- the drafts of a block that creates a room: 1 to 512
pub record IsBlock (drafts : List Draft) : Type 0 where
  pub some : 0 < length drafts
  pub most : length drafts ≤ most_drawn
  pub new : AllByRecursion IsUnplaced drafts

-- the same as tests
abbrev pub is_unplaced : Draft → Bool
is_unplaced d = is_some d.state_key && ((d.room.writer == 0) && ((d.room.at == 0) && is_none d.txn))

abbrev pub is_block : List Draft → Bool
is_block drafts = nat_lt 0 (length drafts) && (nat_le (length drafts) most_drawn && list_all is_unplaced drafts)

-- the event that a draft makes in a new room of a writer
abbrev pub made : ℕ → Draft → Event
made writer d = drafted (record d { room = record { writer = writer; at = 0 } })

abbrev pub fits_its_server : Event → Bool
fits_its_server e = fits (server_of e.sender) e

-- the rule that refuses the first of the events that isn't allowed after those before it; `before` are those of the room already
abbrev pub first_denied : List Event → List Event → Option ℕ
first_denied before [] = None
first_denied before (e ∷ es) = option_or (denied e before) (first_denied (before ++ e ∷ []) es)

abbrev pub unless_denied : List Event → Option ℕ → Result (List Event) CreateFault
unless_denied es None = Ok es
unless_denied es (Some rule) = Err (faults.State rule)

-- the events of a new room: all sizes are judged before the first rule
unfoldable pub judged : List Event → Result (List Event) CreateFault
judged es = if list_all fits_its_server es then unless_denied es (first_denied [] es) else Err faults.TooLarge

-- the events that a block of drafts puts into a new room of a writer, or why it doesn't
abbrev pub admitted_block : ℕ → List Draft → Result (List Event) CreateFault
admitted_block writer drafts = judged (map (made writer) drafts)
