-- Who calls, the parts of the path, and what a call asks where none is refused.
use Rattle.std.specs.Prelude.{ℕ, ◌==◌, List, Option, Some, None, Result, Ok, Err, drop, ok_or, option_map}
use Rattle.std.specs.List.{slice_split}
use Rattle.mx_ids.specs.declared.users.Users.{Users}
use Rattle.mx_http.specs.Paths.{decoded_parts}
use Rattle.mx_http.specs.Queries.{access_token, parameters, path_of, query_of}
use Rattle.mx_http.specs.declared.call.Call.{Call}
use Rattle.mx_ask.specs.Asks.{IsAsk}
use Rattle.mx_ask.specs.declared.ask.Ask.{Ask}
use Rattle.mx_ask.specs.declared.ask.Who.{Who}
use Rattle.mx_users.specs.Finds.{caller_of}
use Rattle.mx_api.specs.declared.asked.Asked.{Asked}
use Rattle.mx_api.specs.declared.asked.Asked.TheVariants as asked
use Rattle.mx_api.specs.declared.authenticated.Authenticated.{Authenticated}
use Rattle.mx_api.specs.declared.refused.Refused.{Refused}
use Rattle.mx_api.specs.declared.refused.Refused.TheVariants as refused

abbrev pub who_of : List ℕ × ℕ → Who
who_of p = record { user = p.0; device = p.1 }

-- who has an access token
abbrev pub caller_in : Users → Option (List ℕ) → Result Who Refused
caller_in users None = Err refused.NoToken
caller_in users (Some token) = ok_or (option_map who_of (caller_of users token)) refused.UnknownToken

-- the parts of a path behind its fifth slash: those behind `/_matrix/client/v3/` and one more part
abbrev pub raw_parts : List ℕ → List (List ℕ)
raw_parts path = drop 5 (slice_split (λ b. b == 47) path)

abbrev pub with_decoded : List (List ℕ × List ℕ) → Who → Option (List (List ℕ)) → Result Authenticated Refused
with_decoded query who None = Err refused.BadPath
with_decoded query who (Some parts) = Ok (record { who = who; parts = parts; query = query })

abbrev pub with_parts : List ℕ → List (List ℕ × List ℕ) → Who → Result Authenticated Refused
with_parts path query who = with_decoded query who (decoded_parts (raw_parts path))

-- what comes next, unless there was a refusal
abbrev pub and_then : {A B : Type 0} → (A → Result B Refused) → Result A Refused → Result B Refused
and_then f (Err r) = Err r
and_then f (Ok x) = f x

-- the call of a caller with the decoded parts of its path and its query, or the first refusal
unfoldable pub authenticated : Users → Call → Result Authenticated Refused
authenticated users call =
    let query = parameters (query_of call.target) in
    and_then (with_parts (path_of call.target) query) (caller_in users (access_token call.bearer query))

-- a request meets the conditions of the engine's calls
abbrev pub IsAsked : Asked → Type 0
IsAsked asked.NoRoute = Unit {0}
IsAsked (asked.Refused r) = Unit {0}
IsAsked (asked.Request r) = IsAsk r.ask

-- what is asked, unless there was a refusal
abbrev pub asked_by : {A : Type 0} → (A → Asked) → Result A Refused → Asked
asked_by f (Err r) = asked.Refused r
asked_by f (Ok x) = f x

abbrev pub request : Who → Ask → Asked
request who what = asked.Request (record { who = who; ask = what })
