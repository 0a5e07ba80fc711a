-- The rooms of which a reply may say something.
use Rattle.std.specs.Prelude.{◌≡◌, ℕ, Bool, false, not, ◌&&◌, ◌||◌, List, drop, nat_le}
use Rattle.std.specs.BTreeSet.{BTreeSet}
use Rattle.std.specs.List.{list_any}
use Rattle.std.specs.Prelude.{Some}
use Rattle.mx_ids.specs.declared.room_id.RoomId.{RoomId}
use Rattle.mx_ids.specs.declared.sync_token.SyncToken.{SyncToken}
use Rattle.mx_account.specs.Entries.{is_of}
use Rattle.mx_event.specs.Lawful.{same_room}
use Rattle.mx_event.specs.declared.event.Event.{Event}
use Rattle.mx_receipt.specs.declared.receipt.Receipt.{Receipt}
use Rattle.mx_fold.specs.Lists.{Lists}
use Rattle.mx_fold.specs.Replies.{SyncAsk}
use Rattle.mx_rest.specs.Walks.{last_rules}
use Rattle.mx_sync.specs.Quiet.{data_after, has_room}
use Rattle.mx_sync.specs.Replies.{said_of}
use Rattle.mx_sync.specs.declared.room_reply.RoomReply.TheVariants as answer

-- the room is in the set, or one of the events after the first so many is of it
abbrev pub has_or_event : List Event → BTreeSet RoomId → ℕ → RoomId → Bool
has_or_event es rooms passed r = has_room rooms r || list_any (λ (e : Event). same_room e.room r) (drop passed es)

-- the same of receipts
abbrev pub has_or_receipt : List Receipt → BTreeSet RoomId → ℕ → RoomId → Bool
has_or_receipt rs rooms passed r = has_room rooms r || list_any (λ (x : Receipt). same_room x.room r) (drop passed rs)

-- what came after the token has something of the room: account data of the user, an event, or a receipt
abbrev pub has_news_of : List ℕ → Lists → SyncToken → RoomId → Bool
has_news_of user l t r =
    (list_any (is_of user (Some r)) (data_after user l t.a) || list_any (λ (e : Event). same_room e.room r) (drop t.e l.events))
    || list_any (λ (x : Receipt). same_room x.room r) (drop t.r l.receipts)

-- what is said of a room can be told by what came after the token: not all state is asked for, and no push rules were stored
abbrev pub goes_on : Bool → List ℕ → Lists → SyncToken → Bool
goes_on full user l t = not full && nat_le (last_rules user l) t.a

-- each room of which something is said is among them
abbrev pub HasAllSaid : BTreeSet RoomId → Lists → List ℕ → SyncAsk → Type 0
HasAllSaid rooms l user a = (r : RoomId) → has_room rooms r ≡ false → said_of l user a r ≡ answer.Nothing
