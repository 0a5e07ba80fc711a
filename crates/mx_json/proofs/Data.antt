-- The data of each form of value.
use Rattle.std.proofs.Common.{◌≡◌, ℕ, ℤ, List, Bool, ◌∙◌, ap, sym}
use Rattle.serde_json.specs.Data.{Data, null, boolean, number, string, array, object}
use Rattle.serde_json.specs.Find.{of_integer}
use Rattle.mx_json.specs.Values.{data_of, data_step, items_data, members_data}
use Rattle.mx_json.specs.declared.members.Member.{Member}
use Rattle.mx_json.specs.declared.value.Json as json
use Rattle.mx_json.specs.declared.value.Json.{Json}
use Rattle.mx_json.specs.declared.value.Json.TheOpen.{Json-F}
use Rattle.mx_json.specs.declared.value.Json.TheFolds.{fold-roll-Json}
use Rattle.mx_json.specs.declared.value.Json.TheVariants.{rolls-Null, rolls-Bool, rolls-Int, rolls-Text, rolls-List, rolls-Object}

pub data-Null : data_of json.Null ≡ null
data-Null = ap data_of (sym rolls-Null) ∙ fold-roll-Json Data data_step Json-F.Null

pub data-Bool : (b : Bool) → data_of (json.Bool b) ≡ boolean b
data-Bool b = ap data_of (sym (rolls-Bool b)) ∙ fold-roll-Json Data data_step (Json-F.Bool b)

pub data-Int : (z : ℤ) → data_of (json.Int z) ≡ number (of_integer z)
data-Int z = ap data_of (sym (rolls-Int z)) ∙ fold-roll-Json Data data_step (Json-F.Int z)

pub data-Text : (s : List ℕ) → data_of (json.Text s) ≡ string s
data-Text s = ap data_of (sym (rolls-Text s)) ∙ fold-roll-Json Data data_step (Json-F.Text s)

pub data-List : (js : List Json) → data_of (json.List js) ≡ array (items_data js)
data-List js = ap data_of (sym (rolls-List js)) ∙ fold-roll-Json Data data_step (Json-F.List js)

pub data-Object : (ms : List (Member Json)) → data_of (json.Object ms) ≡ object (members_data ms)
data-Object ms = ap data_of (sym (rolls-Object ms)) ∙ fold-roll-Json Data data_step (Json-F.Object ms)
