-- Global account data: what a reply sends, and what stands at a token.
use Rattle.std.specs.Prelude.{ℕ, Bool, ◌&&◌, cond, List, Option, Some, None}
use Rattle.std.specs.Cmp.Lexicographic.{slice_cmp}
use Rattle.std.specs.Option.{option_map, option_or}
use Rattle.std.specs.Ordering.{nat_cmp}
use Rattle.std.specs.List.{filter}
use Rattle.std.specs.Str.{bytes_eq}
use Rattle.mx_ids.specs.declared.sync_token.SyncToken.{SyncToken}
use Rattle.mx_json.specs.declared.value.Json.{Json}
use Rattle.mx_window.specs.Windows.{between}
use Rattle.mx_window.specs.Lasts.{last_of}
use Rattle.mx_account.specs.Entries.{content_of, is_of, kind_of, position_of}
use Rattle.mx_account.specs.Values.{value_at}
use Rattle.mx_account.specs.declared.entry.Entry.{Entry}
use Rattle.mx_fold.specs.Latest.{latest, over}
use Rattle.mx_fold.specs.Servers.{Server}
use Rattle.mx_filter.specs.Passes as filters
use Rattle.mx_filter.specs.declared.parts.DataPart.TheVariants as kinds
use Rattle.mx_filter.specs.declared.parts.Selection.{Selection}

abbrev pub defaults_of : {V D : Type 0} → Server V D → List ℕ → Selection → List (List ℕ × Json)
defaults_of w user f = filter (λ (p : List ℕ × Json). filters.passes_type f kinds.Account p.0) (w.defaults user)

-- it is global data of the user, of a type that the filter passes
abbrev pub is_global : Selection → List ℕ → Entry → Bool
is_global f user e = is_of user None e && filters.passes_type f kinds.Account (kind_of e)

module _ {V D : Type 0} (w : Server V D) (entries : List Entry) (user : List ℕ) (f : Selection) where
  -- for each type that passes the last content that is set in a window, in byte order of types
  abbrev pub set_between : ℕ → ℕ → List (List ℕ × Json)
  set_between low high = latest (slice_cmp nat_cmp) kind_of content_of (filter (is_global f user) (between position_of low high entries))

  -- one content for each type, in byte order of types: without `since` the defaults, with what is set put over them; else
  -- what is set after it
  abbrev pub account_sent : Option SyncToken → ℕ → List (List ℕ × Json)
  account_sent None high =
      over (slice_cmp nat_cmp) (latest (slice_cmp nat_cmp) (λ (p : List ℕ × Json). p.0) (λ (p : List ℕ × Json). p.1) (defaults_of w user f))
      (set_between 0 high)
  account_sent (Some since) high = set_between since.a high

-- the content that a list has under a type
abbrev pub content_at : List ℕ → List (List ℕ × Json) → Option Json
content_at kind ps = option_map (λ (p : List ℕ × Json). p.1) (last_of (λ (p : List ℕ × Json). bytes_eq p.0 kind) ps)

-- *Picture*, of a user's global account data: for each type that passes the last content up to a, else the default
abbrev pub account_at : {V D : Type 0} → Server V D → List Entry → List ℕ → Selection → ℕ → List ℕ → Option Json
account_at w entries user f a kind = option_or (cond (filters.passes_type f kinds.Account kind) (value_at user None kind a entries) None)
    (content_at kind (defaults_of w user f))
