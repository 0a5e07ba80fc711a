-- The condition on what is asked.
use Rattle.std.specs.Prelude.{◌≡◌, ◌≤◌, Some, slice_get, true}
use Rattle.mx_create.specs.Bodies.{is_create_body}
use Rattle.mx_ask.specs.declared.ask.Ask.{Ask}
use Rattle.mx_ask.specs.declared.ask.Ask.TheVariants as ask

-- the body of a room's creation has the form, the path of a transaction names the room, and the limit of a page and the timeout of a
-- sync are cut
abbrev pub IsAsk : Ask → Type 0
IsAsk (ask.CreateRoom body) = is_create_body body ≡ true
IsAsk (ask.Send room kind txn content) = slice_get txn.path 0 ≡ Some room
IsAsk (ask.Redact room event txn reason) = slice_get txn.path 0 ≡ Some room
IsAsk (ask.Messages room backward from to limit filter) = limit ≤ 1000
IsAsk (ask.Sync since filter full after timeout) = timeout ≤ 300000
IsAsk other = Unit {0}
