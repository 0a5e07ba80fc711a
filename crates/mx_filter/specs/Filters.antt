-- What a filter says once its fields are of their types. An absent part filters nothing.
use Rattle.std.specs.Prelude.{ℕ, ℤ, pos, negsuc, min, Bool, true, false, List, [], Option, Some, None, option_map, option_and_then, unwrap_or, codes}
use Rattle.std.specs.List.{flat_map}
use Rattle.std.specs.Option.{option_to_list}
use Rattle.mx_json.specs.Fields.{field, bool_of, int_of, list_of, text_of}
use Rattle.mx_json.specs.declared.value.Json.{Json}
use Rattle.mx_filter.specs.declared.parts.EventFilter.{EventFilter}
use Rattle.mx_filter.specs.declared.parts.Filter.{Filter}
use Rattle.mx_filter.specs.declared.parts.Selection.{Selection}
use Rattle.mx_filter.specs.declared.parts.TypeFilter.{TypeFilter}

abbrev pub field_at : List ℕ → Option Json → Option Json
field_at key part = option_and_then (field key) part

abbrev pub texts_of : List Json → List (List ℕ)
texts_of js = flat_map (λ j. option_to_list (text_of j)) js

abbrev pub texts_at : List ℕ → Option Json → Option (List (List ℕ))
texts_at key part = option_map texts_of (option_and_then list_of (field_at key part))

abbrev pub texts_or_none : List ℕ → Option Json → List (List ℕ)
texts_or_none key part = unwrap_or (texts_at key part) []

-- the texts at a key, if there is a list of them, and those at another
abbrev pub choice_in : List ℕ → List ℕ → Option Json → Option (List (List ℕ)) × List (List ℕ)
choice_in wanted unwanted part = (texts_at wanted part, texts_or_none unwanted part)

abbrev pub truth_at : List ℕ → Option Json → Bool
truth_at key part = unwrap_or (option_and_then bool_of (field_at key part)) false

abbrev pub count_of : ℤ → ℕ
count_of (pos n) = min n 1000
count_of (negsuc n) = 0

abbrev pub limit_in : Option Json → ℕ
limit_in part = unwrap_or (option_map count_of (option_and_then int_of (field_at (codes "limit") part))) 10

abbrev pub type_filter : Option Json → TypeFilter
type_filter part = record { types = texts_at (codes "types") part; not_types = texts_or_none (codes "not_types") part }

abbrev pub event_filter : Option Json → EventFilter
event_filter part = record {
  kinds = type_filter part;
  senders = texts_at (codes "senders") part;
  not_senders = texts_or_none (codes "not_senders") part;
  rooms = texts_at (codes "rooms") part;
  not_rooms = texts_or_none (codes "not_rooms") part;
  contains_url = option_and_then bool_of (field_at (codes "contains_url") part);
}

-- of a room's ephemeral events and account data, and of global account data
abbrev pub data_filters : Option Json → Option Json → TypeFilter × (TypeFilter × TypeFilter)
data_filters room account =
    (type_filter (field_at (codes "ephemeral") room), (type_filter (field_at (codes "account_data") room), type_filter account))

-- by the part `room` and the part `account_data`
abbrev pub selection : Option Json → Option Json → Selection
selection room account = record {
  rooms = texts_at (codes "rooms") room;
  not_rooms = texts_or_none (codes "not_rooms") room;
  include_leave = truth_at (codes "include_leave") room;
  state = event_filter (field_at (codes "state") room);
  timeline = event_filter (field_at (codes "timeline") room);
  ephemeral = type_filter (field_at (codes "ephemeral") room);
  room_account = type_filter (field_at (codes "account_data") room);
  account = type_filter account;
  lazy = truth_at (codes "lazy_load_members") (field_at (codes "state") room);
  redundant = truth_at (codes "include_redundant_members") (field_at (codes "state") room);
}

-- the same, with another timeline and lazy members
abbrev pub selection_by : Option Json → Option Json → Option Json → Bool → Selection
selection_by room timeline account lazy = record (selection room account) { timeline = event_filter timeline; lazy = lazy }

-- the filter of a sync; that of a request without one is the filter of `{}`
abbrev pub filter_by : Option Json → Option Json → Filter
filter_by room account = record { selection = selection room account; limit = limit_in (field_at (codes "timeline") room) }

abbrev pub filter_of : Json → Filter
filter_of j = filter_by (field (codes "room") j) (field (codes "account_data") j)

-- the filter of a page: one filter of a room's events stands for the timeline's, and its lazy members for the state's
abbrev pub page_filter_of : Json → Filter
page_filter_of j = record {
  selection = record (selection None None) { timeline = event_filter (Some j); lazy = truth_at (codes "lazy_load_members") (Some j) };
  limit = limit_in (Some j);
}
