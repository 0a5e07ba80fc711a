-- The parameters of a sync. Of a repeated parameter the first counts, and unknown ones have no effect.
use Rattle.std.specs.Prelude.{ℕ, ◌||◌, List, [], ◌∷◌, Bool, false, Option, Some, None, option_and_then, unwrap_or, codes}
use Rattle.std.specs.Option.{is_some}
use Rattle.std.specs.Str.{bytes_eq}
use Rattle.mx_ids.specs.declared.sync_token.SyncToken.{SyncToken}
use Rattle.mx_http.specs.Queries.{parameter}
use Rattle.mx_api.specs.Queries.{begins_object, first_wrong, is_number, is_wrong, number_within}
use Rattle.mx_api.specs.Tokens.{sync_token_of}
use Rattle.mx_api.specs.declared.refused.Parameter.{Parameter}
use Rattle.mx_api.specs.declared.refused.Parameter.TheVariants as name

abbrev pub is_token : List ℕ → Bool
is_token value = is_some (sync_token_of value)

abbrev pub is_truth : List ℕ → Bool
is_truth value = bytes_eq value (codes "true") || bytes_eq value (codes "false")

-- milliseconds, cut to at most 300,000
abbrev pub timeout_of : List ℕ → Option ℕ
timeout_of value = number_within 300000 value

abbrev pub is_timeout : List ℕ → Bool
is_timeout value = is_some (timeout_of value)

-- the id of a stored filter, in digits, or a filter itself, which begins an object
abbrev pub is_filter : List ℕ → Bool
is_filter value = begins_object value || is_number value

-- the first parameter whose value isn't of its form
unfoldable pub first_bad : List (List ℕ × List ℕ) → Option Parameter
first_bad query =
    first_wrong
    ((name.Since, is_wrong is_token (parameter (codes "since") query))
    ∷ (name.FullState, is_wrong is_truth (parameter (codes "full_state") query))
    ∷ (name.UseStateAfter, is_wrong is_truth (parameter (codes "use_state_after") query))
    ∷ (name.Timeout, is_wrong is_timeout (parameter (codes "timeout") query))
    ∷ (name.Filter, is_wrong is_filter (parameter (codes "filter") query))
    ∷ [])
    query

-- the token of `since`
abbrev pub since_in : List (List ℕ × List ℕ) → Option SyncToken
since_in query = option_and_then sync_token_of (parameter (codes "since") query)

-- no time where there is no timeout
abbrev pub timeout_in : List (List ℕ × List ℕ) → ℕ
timeout_in query = unwrap_or (option_and_then timeout_of (parameter (codes "timeout") query)) 0

abbrev pub says_true : Option (List ℕ) → Bool
says_true None = false
says_true (Some value) = bytes_eq value (codes "true")

-- the whole state is asked for
abbrev pub is_full : List (List ℕ × List ℕ) → Bool
is_full query = says_true (parameter (codes "full_state") query)

-- the state at the end of each timeline is asked for
abbrev pub is_after : List (List ℕ × List ℕ) → Bool
is_after query = says_true (parameter (codes "use_state_after") query)
