-- Objects that stand in replies to syncs (Client-Server API, Syncing).
use Rattle.std.specs.Prelude.{ℕ, List, [], ◌∷◌, map, min, pos, codes, Option, Some, None}
use Rattle.mx_json.specs.Numbers.{largest}
use Rattle.mx_json.specs.declared.value.Json.{Json}
use Rattle.mx_json.specs.declared.value.Json.TheVariants as json
use Rattle.mx_event.specs.Forms.{member}
use Rattle.mx_lazy.specs.declared.room_summary.Summary.{Summary}
use Rattle.mx_unread.specs.declared.unread_counts.Counts.{Counts}

-- an object of one member
abbrev pub single : List ℕ → Json → Json
single key value = json.Object (member key value ∷ [])

abbrev pub events_form : List Json → Json
events_form events = single (codes "events") (json.List events)

-- data of a type, as they stand among events
abbrev pub data_form : List ℕ → Json → Json
data_form kind content = json.Object (member (codes "content") content ∷ member (codes "type") (json.Text kind) ∷ [])

abbrev pub pair_form : List ℕ × Json → Json
pair_form p = data_form p.0 p.1

abbrev pub account_form : List (List ℕ × Json) → Json
account_form entries = events_form (map pair_form entries)

abbrev pub number : ℕ → Json
number n = json.Int (pos (min n largest))

abbrev pub counts_form : Counts → Json
counts_form c = json.Object (member (codes "highlight_count") (number c.highlights) ∷ member (codes "notification_count") (number c.notifications) ∷ [])

abbrev pub whole_summary : Summary → Json
whole_summary s = json.Object (
    member (codes "m.heroes") (json.List (map json.Text s.heroes))
    ∷ member (codes "m.invited_member_count") (number s.invited)
    ∷ member (codes "m.joined_member_count") (number s.joined)
    ∷ [])

-- a summary that isn't sent is empty
abbrev pub summary_form : Option Summary → Json
summary_form None = json.Object []
summary_form (Some s) = whole_summary s
