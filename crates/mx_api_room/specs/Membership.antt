-- Calls that change a membership of a room (Client-Server API, Room membership).
use Rattle.std.specs.Prelude.{ℕ, List, Option, Some, None, codes}
use Rattle.mx_json.specs.Fields.{text_at}
use Rattle.mx_ask.specs.declared.ask.Ask.{Ask}
use Rattle.mx_ask.specs.declared.ask.Ask.TheVariants as ask
use Rattle.mx_ask.specs.declared.ask.Who.{Who}
use Rattle.mx_api.specs.Bodies.{posted}
use Rattle.mx_api.specs.Calls.{asked_by, request}
use Rattle.mx_api.specs.Parts.{asked_of}
use Rattle.mx_api.specs.declared.asked.Asked.{Asked}
use Rattle.mx_api.specs.declared.asked.Asked.TheVariants as asked
use Rattle.mx_api.specs.declared.refused.Field.TheVariants as field
use Rattle.mx_api.specs.declared.refused.Refused.TheVariants as refused
use Rattle.mx_api_room.specs.declared.membership.Change.{Change}
use Rattle.mx_api_room.specs.declared.membership.Change.TheVariants as change
use Rattle.mx_api_room.specs.declared.membership.OwnChange.{OwnChange}
use Rattle.mx_api_room.specs.declared.membership.OwnChange.TheVariants as own

abbrev pub own_by : OwnChange → Who → List ℕ → Option (List ℕ) → Asked
own_by own.Join who room reason = request who (ask.Join room reason)
own_by own.Leave who room reason = request who (ask.Leave room reason)

-- POST /join/{roomId}, POST /rooms/{roomId}/join, POST /rooms/{roomId}/leave
unfoldable pub own_asked : OwnChange → Who → Option (List ℕ) → List ℕ → Asked
own_asked change who room body = asked_of (λ r. asked_by (λ j. own_by change who r (text_at (codes "reason") j)) (posted body)) room

abbrev pub ask_of : Change → List ℕ → List ℕ → Option (List ℕ) → Ask
ask_of change.Invite room user reason = ask.Invite room user reason
ask_of change.Kick room user reason = ask.Kick room user reason
ask_of change.Ban room user reason = ask.Ban room user reason
ask_of change.Unban room user reason = ask.Unban room user reason

-- by the texts `reason` and `user_id` of the body
abbrev pub named_asked : Change → Who → List ℕ → Option (List ℕ) → Option (List ℕ) → Asked
named_asked change who room reason None = asked.Refused (refused.BadShape field.UserId)
named_asked change who room reason (Some user) = request who (ask_of change room user reason)

-- POST /rooms/{roomId}/invite, and kick, ban and unban
unfoldable pub change_asked : Change → Who → Option (List ℕ) → List ℕ → Asked
change_asked change who room body =
    asked_of (λ r. asked_by (λ j. named_asked change who r (text_at (codes "reason") j) (text_at (codes "user_id") j)) (posted body)) room
