-- The reply to a sync as JSON (Client-Server API, Syncing), as a device sees it.
use Rattle.std.specs.Prelude.{ℕ, List, [], ◌∷◌, fold, codes}
use Rattle.mx_ids.specs.Sync.{sync_text}
use Rattle.mx_json.specs.declared.value.Json.{Json}
use Rattle.mx_json.specs.declared.value.Json.TheVariants as json
use Rattle.mx_event.specs.Forms.{member}
use Rattle.mx_sync.specs.declared.sync_reply.Reply.{Reply}
use Rattle.mx_sync_json.specs.Objects.{account_form}
use Rattle.mx_sync_json.specs.Rooms.{with_invited, with_joined, with_left}

-- rooms by the texts of their ids, in byte order
abbrev pub rooms_form : List ℕ → ℕ → Reply → Json
rooms_form server device r = json.Object (
    member (codes "invite") (json.Object (fold (with_invited server) [] r.invited))
    ∷ member (codes "join") (json.Object (fold (with_joined server device r.next.e) [] r.joined))
    ∷ member (codes "leave") (json.Object (fold (with_left server device r.next.e) [] r.left))
    ∷ [])

-- `server` is the name of the server
abbrev pub reply_form : List ℕ → ℕ → Reply → Json
reply_form server device r = json.Object (
    member (codes "account_data") (account_form r.account)
    ∷ member (codes "next_batch") (json.Text (sync_text r.next))
    ∷ member (codes "rooms") (rooms_form server device r)
    ∷ [])
