-- A user's stored filters, and the filter that a sync asks by (Client-Server API, Filtering).
use Rattle.std.specs.Prelude.{ℕ, ◌^◌, ◌&&◌, not, nat_eq, nat_lt, List, [], ◌∷◌, Option, Some, None, is_none, option_and_then, decimal, if◌then◌else◌}
use Rattle.std.specs.Option.{option_or}
use Rattle.std.specs.Str.{bytes_eq}
use Rattle.std.specs.Str.Parse.{digits_value}
use Rattle.mx_account.specs.declared.entry.Entry.{Entry}
use Rattle.mx_account.specs.declared.entry.Entry.TheVariants as entry
use Rattle.mx_ask.specs.declared.ask.FilterAsk.{FilterAsk}
use Rattle.mx_ask.specs.declared.ask.FilterAsk.TheVariants as asks
use Rattle.mx_ask.specs.declared.said.Said.{Said}
use Rattle.mx_filter.specs.Fields.{is_federation, wrong_filter}
use Rattle.mx_filter.specs.Filters.{filter_by, filter_of}
use Rattle.mx_filter.specs.declared.parts.Filter.{Filter}
use Rattle.mx_fold.specs.Lists.{Lists}
use Rattle.mx_json.specs.declared.value.Json.{Json}
use Rattle.mx_user_reads.specs.Told.{told}

-- the number below 2^64 whose decimal text is the id
abbrev pub number_of : List ℕ → Option ℕ
number_of id =
    if bytes_eq (decimal (digits_value 10 id)) id && nat_lt (digits_value 10 id) (2 ^ 64) then Some (digits_value 10 id) else None

-- what an entry holds, if it is the user's filter of this number
abbrev pub filter_in : List ℕ → ℕ → Entry → Option Json
filter_in user number (entry.Data own_user room kind content at) = None
filter_in user number (entry.Filter own_user id filter at) = if bytes_eq own_user user && nat_eq id number then Some filter else None

-- the first such among the entries
abbrev pub first_filter : List ℕ → ℕ → List Entry → Option Json
first_filter user number [] = None
first_filter user number (e ∷ es) = option_or (filter_in user number e) (first_filter user number es)

-- the user's stored filter of an id, as it was given
abbrev pub filter_stored : Lists → List ℕ → List ℕ → Option Json
filter_stored l user id = option_and_then (λ number. first_filter user number l.accounts) (number_of id)

unfoldable pub stored_filter : Lists → List ℕ → List ℕ → Said
stored_filter l user id = told (filter_stored l user id)

-- the filter that a value says, where it is one of a sync
abbrev pub filter_read : Json → Option Filter
filter_read j = if is_none (wrong_filter j) && not (is_federation j) then Some (filter_of j) else None

-- the stored filter of an id, if it is there and is read; where none is named, one that lets all pass
abbrev pub filter_named : Lists → List ℕ → Option (List ℕ) → Option Filter
filter_named l user None = Some (filter_by None None)
filter_named l user (Some id) = option_and_then filter_read (filter_stored l user id)

-- the filter that a sync asks by, unless it asks by a stored one that isn't there
abbrev pub filter_for : Lists → List ℕ → FilterAsk → Option Filter
filter_for l user asks.Absent = filter_named l user None
filter_for l user (asks.Stored id) = filter_named l user (Some id)
filter_for l user (asks.Inline filter) = Some filter
