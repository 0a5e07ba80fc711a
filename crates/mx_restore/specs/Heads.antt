-- First lines.
use Rattle.std.specs.Prelude.{ℕ, ◌-◌, ◌^◌, ◌&&◌, ◌++◌, Bool, true, false, if◌then◌else◌, ℤ, pos, List, [], ◌∷◌, Option, Some, None, codes, length, min, slice_get}
use Rattle.std.specs.Ordering.{int_eq}
use Rattle.mx_event.specs.Kinds.{is_text}
use Rattle.mx_ids.specs.declared.users.Device.{Device}
use Rattle.mx_ids.specs.declared.users.Users.{Users}
use Rattle.mx_journal.specs.Kept.{AreLines}
use Rattle.mx_json.specs.Fields.{int_of, list_of, text_of}
use Rattle.mx_json.specs.declared.value.Json.{Json}
use Rattle.mx_restore.specs.Restored.{counted}
use Rattle.mx_restore.specs.Said.{name_of}

-- lines stand behind those that there were
abbrev pub AddsLines : List ℕ → List ℕ → Type 0
AddsLines old new = (texts : List (List ℕ)) → AreLines old texts → (more : List (List ℕ)) × AreLines new (texts ++ more)

abbrev pub is_int : ℤ → Option ℤ → Bool
is_int z None = false
is_int z (Some y) = int_eq z y

-- a value goes on, behind its name, as the head of a journal of this server with so many writers
abbrev pub is_head_list : List ℕ → ℕ → List Json → Bool
is_head_list server writers (name ∷ version ∷ found ∷ count ∷ []) = is_int (pos 1) (int_of version) && is_text server (text_of found) && is_int (pos writers) (int_of count)
is_head_list server writers other = false

abbrev pub is_head_in : List ℕ → ℕ → Option (List Json) → Bool
is_head_in server writers None = false
is_head_in server writers (Some parts) = is_head_list server writers parts

abbrev pub is_head : List ℕ → ℕ → Json → Bool
is_head server writers j = is_head_in server writers (list_of j)

-- a value is that of the first line of such a journal
abbrev pub is_first_line : List ℕ → ℕ → Json → Bool
is_first_line server writers j = is_text (codes "mxsync") (name_of j) && is_head server writers j

-- a value says a device: its user and its name
abbrev pub is_device_list : Option (List ℕ) → Device → List Json → Bool
is_device_list (Some id) d (user ∷ name ∷ []) = is_text id (text_of user) && is_text d.name (text_of name)
is_device_list id d parts = false

abbrev pub is_device_in : Users → Option Device → Option (List Json) → Bool
is_device_in users (Some d) (Some parts) = is_device_list (slice_get users.users d.user) d parts
is_device_in users d parts = false

-- a value says the device of a number
abbrev pub is_device : Users → ℕ → Json → Bool
is_device users at j = is_device_in users (slice_get users.devices at) (list_of j)

-- values say the devices from a number on
abbrev pub are_devices : Users → ℕ → List Json → Bool
are_devices users at [] = true
are_devices users at (j ∷ js) = is_device users at j && are_devices users (counted at 1) js

abbrev pub devices_told : Users → ℕ → Option (List Json) → Option ℕ
devices_told users from None = None
devices_told users from (Some js) = if are_devices users from js then Some (length js) else None

abbrev pub devices_list : Users → ℕ → List Json → Option ℕ
devices_list users from (name ∷ first ∷ devices ∷ []) = if is_int (pos (min from (2 ^ 63 - 1))) (int_of first) then devices_told users from (list_of devices) else None
devices_list users from other = None

abbrev pub devices_found : Users → ℕ → Option (List Json) → Option ℕ
devices_found users from None = None
devices_found users from (Some parts) = devices_list users from parts

-- how many devices a value has behind its name, where these are the ones of the users file from a number on
abbrev pub devices_in : Users → ℕ → Json → Option ℕ
devices_in users from j = devices_found users from (list_of j)
