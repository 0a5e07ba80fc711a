-- A walk back over a list of entries, from a position to 1.
use Rattle.std.proofs.Common.{◌≡◌, ℕ, ◌-◌, Bool, true, false, cond, List, [], ◌∷◌, take, length, min, Option, Some, None, option_map, refl, sym, ap, ◌∙◌}
use Rattle.std.specs.Option.{option_or}
use Rattle.mx_ids.specs.declared.room_id.RoomId.{RoomId}
use Rattle.mx_json.specs.declared.value.Json.{Json}
use Rattle.mx_lanes.specs.Parts.{Taken, part_at}
use Rattle.mx_lanes.proofs.Walk.{taken-back, take-min}
use Rattle.mx_window.specs.Lasts.{last_of}
use Rattle.mx_window.proofs.Intervals.{between-take}
use Rattle.mx_window.proofs.Lasts.{last_of-append}
use Rattle.mx_account.specs.declared.entry.Entry.{Entry}
use Rattle.mx_account.specs.Entries.{content_of, is_data_of, position_of}
use Rattle.mx_account.specs.Values.{AreInPlace, value_at}

-- the content of the last entry of this user, room and type
abbrev pub last_content : List ℕ → Option RoomId → List ℕ → List Entry → Option Json
last_content user room kind entries = option_map content_of (last_of (is_data_of user room kind) entries)

first_found : (b : Bool) (e : Entry) (rest : Option Entry) → option_map content_of (option_or (cond b (Some e) None) rest) ≡ option_or (cond b (Some (content_of e)) None) (option_map content_of rest)
first_found true e rest = refl
first_found false e rest = refl

-- up to a position the last content is that of the entry there, or else the last up to the position before
pub one_back : (user : List ℕ) (room : Option RoomId) (kind : List ℕ) (parts : Taken Entry) (p : ℕ) (e : Entry) (found : Option Json) → Some e ≡ part_at parts p
    → found ≡ cond (is_data_of user room kind e) (Some (content_of e)) None
    → last_content user room kind (take p parts.items) ≡ option_or found (last_content user room kind (take (p - 1) parts.items))
one_back user room kind parts p e found is here =
    let before = take (p - 1) parts.items in
    let test = is_data_of user room kind in
    ap (last_content user room kind) (taken-back parts p e is)
    ∙ ap (option_map content_of) (last_of-append test before (e ∷ []))
    ∙ first_found (test e) e (last_of test before)
    ∙ ap (λ o. option_or o (last_content user room kind before)) (sym here)

-- where the walk begins
pub begins : (user : List ℕ) (room : Option RoomId) (kind : List ℕ) (a p : ℕ) (entries : List Entry) → AreInPlace entries → p ≡ min a (length entries)
    → last_content user room kind (take p entries) ≡ value_at user room kind a entries
begins user room kind a p entries placed least =
    ap (λ n. last_content user room kind (take n entries)) least ∙ ap (last_content user room kind) (take-min a entries ∙ sym (between-take position_of a entries placed))
