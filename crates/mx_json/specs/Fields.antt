-- What stands in a value: its text, its number, its members, and what stands at a key.
use Rattle.std.specs.Prelude.{ℕ, ℤ, Bool, true, false, List, [], Option, Some, None, option_and_then}
use Rattle.mx_json.specs.Keys.{value_at}
use Rattle.mx_json.specs.declared.members.Member.{Member}
use Rattle.mx_json.specs.declared.value.Json.{Json, out-Json}
use Rattle.mx_json.specs.declared.value.Json.TheOpen.{Json-F}

abbrev pub is_object_in : Json-F Json → Bool
is_object_in Json-F.Null = false
is_object_in (Json-F.Bool b) = false
is_object_in (Json-F.Int z) = false
is_object_in (Json-F.Text s) = false
is_object_in (Json-F.List js) = false
is_object_in (Json-F.Object ms) = true

abbrev pub is_object : Json → Bool
is_object j = is_object_in (out-Json j)

abbrev pub members_in : Json-F Json → List (Member Json)
members_in Json-F.Null = []
members_in (Json-F.Bool b) = []
members_in (Json-F.Int z) = []
members_in (Json-F.Text s) = []
members_in (Json-F.List js) = []
members_in (Json-F.Object ms) = ms

-- the members of an object; another value has none
abbrev pub members_of : Json → List (Member Json)
members_of j = members_in (out-Json j)

abbrev pub text_in : Json-F Json → Option (List ℕ)
text_in Json-F.Null = None
text_in (Json-F.Bool b) = None
text_in (Json-F.Int z) = None
text_in (Json-F.Text s) = Some s
text_in (Json-F.List js) = None
text_in (Json-F.Object ms) = None

-- the text that a value is
abbrev pub text_of : Json → Option (List ℕ)
text_of j = text_in (out-Json j)

abbrev pub int_in : Json-F Json → Option ℤ
int_in Json-F.Null = None
int_in (Json-F.Bool b) = None
int_in (Json-F.Int z) = Some z
int_in (Json-F.Text s) = None
int_in (Json-F.List js) = None
int_in (Json-F.Object ms) = None

-- the number that a value is
abbrev pub int_of : Json → Option ℤ
int_of j = int_in (out-Json j)

abbrev pub bool_in : Json-F Json → Option Bool
bool_in Json-F.Null = None
bool_in (Json-F.Bool b) = Some b
bool_in (Json-F.Int z) = None
bool_in (Json-F.Text s) = None
bool_in (Json-F.List js) = None
bool_in (Json-F.Object ms) = None

-- the truth value that a value is
abbrev pub bool_of : Json → Option Bool
bool_of j = bool_in (out-Json j)

abbrev pub list_in : Json-F Json → Option (List Json)
list_in Json-F.Null = None
list_in (Json-F.Bool b) = None
list_in (Json-F.Int z) = None
list_in (Json-F.Text s) = None
list_in (Json-F.List js) = Some js
list_in (Json-F.Object ms) = None

-- the list that a value is
abbrev pub list_of : Json → Option (List Json)
list_of j = list_in (out-Json j)

-- the value at a key of an object
abbrev pub field : List ℕ → Json → Option Json
field key j = value_at key (members_of j)

-- the text at a key, where a text stands there
abbrev pub text_at : List ℕ → Json → Option (List ℕ)
text_at key j = option_and_then text_of (field key j)

-- the number at a key, where a number stands there
abbrev pub int_at : List ℕ → Json → Option ℤ
int_at key j = option_and_then int_of (field key j)
