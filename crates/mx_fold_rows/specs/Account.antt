-- Global account data in replies: alice sets m.tag twice, and m.direct; bob sets m.tag; alice sets m.tag in a room. Her push
-- rules have a default.
use Rattle.std.specs.Prelude.{◌≡◌, ℕ, List, [], ◌∷◌, Option, None, Some, codes}
use Rattle.mx_ids.specs.declared.sync_token.SyncToken.{SyncToken}
use Rattle.mx_json.specs.declared.value.Json.{Json}
use Rattle.mx_account.specs.declared.entry.Entry.{Entry}
use Rattle.mx_account.specs.declared.entry.Entry.TheVariants as entry
use Rattle.mx_filter.specs.declared.parts.Selection.{Selection}
use Rattle.mx_fold.specs.Accounts.{account_sent}
use Rattle.mx_fold.specs.Servers.{Server}
use Rattle.mx_fold_rows.specs.Events.{alice, bob}
use Rattle.mx_fold_rows.specs.Exchanged.{all, room, server}
use Rattle.mx_fold_rows.specs.Heard.{token}

-- a server whose users have push rules of their own
abbrev pub with_rules : Json → Server ℕ ℕ
with_rules rules = record server { defaults = λ user. (codes "m.push_rules", rules) ∷ [] }

-- a filter that passes no type
abbrev pub none : Selection
none = record all { account = record { types = Some []; not_types = [] } }

abbrev pub set_by : List ℕ → List ℕ → Json → ℕ → Entry
set_by user kind content at = entry.Data user None kind content at

abbrev pub entries : Json → Json → Json → List Entry
entries one two three =
    set_by alice (codes "m.tag") one 1
    ∷ set_by alice (codes "m.direct") two 2
    ∷ set_by bob (codes "m.tag") two 3
    ∷ set_by alice (codes "m.tag") three 4
    ∷ entry.Data alice (Some room) (codes "m.tag") two 5
    ∷ []

abbrev pub sent : Json → Json → Json → Json → Selection → Option SyncToken → List (List ℕ × Json)
sent rules one two three f since = account_sent (with_rules rules) (entries one two three) alice f since 5

abbrev pub at_account : ℕ → SyncToken
at_account a = record (token 0 0) { a = a }

-- without a token: one content a type, the last one, in byte order of types, with the default of what isn't set
abbrev pub FirstAccount : Type 0
FirstAccount = (rules one two three : Json) → sent rules one two three all None
    ≡ (codes "m.direct", two) ∷ (codes "m.push_rules", rules) ∷ (codes "m.tag", three) ∷ []

-- from a token on: what was set after it, and no default
abbrev pub LaterAccount : Type 0
LaterAccount = (rules one two three : Json) → sent rules one two three all (Some (at_account 2)) ≡ (codes "m.tag", three) ∷ []

abbrev pub NoAccount : Type 0
NoAccount = (rules one two three : Json) → sent rules one two three all (Some (at_account 4)) ≡ []

-- nor what doesn't pass
abbrev pub NoType : Type 0
NoType = (rules one two three : Json) → sent rules one two three none None ≡ []
