-- What `read_json` is, case by case.
use Rattle.std.proofs.Common.{◌≡◌, ℕ, List, Bool, true, false, Some, None, Ok, Err, refl, sym, ap, ◌∙◌}
use Rattle.std.proofs.lemmas.Str.{IsUtf8-from_is_utf8, is_utf8-from_IsUtf8}
use Rattle.std.specs.Str.{IsUtf8, is_utf8}
use Rattle.serde_json.specs.Data.{Data}
use Rattle.serde_json.specs.Find.{is_float}
use Rattle.serde_json.specs.Read.{read}
use Rattle.mx_json.specs.declared.fault.JsonFault.TheVariants as faults
use Rattle.mx_json.specs.declared.value.Json.{Json}
use Rattle.mx_json.specs.Numbers.{any_number, has_large}
use Rattle.mx_json.specs.Reading.{checked, read_json}
use Rattle.mx_json.specs.Values.{data_of, json_of}
use Rattle.mx_json.specs.Laws.{IsInRange}
use Rattle.mx_json.proofs.Fractions.{any_float, is_whole}
use Rattle.mx_json.proofs.Whole.{comes}

pub a_fraction : (d : Data) → any_number is_float d ≡ true → checked d ≡ Err faults.Fraction
unfolding checked
a_fraction d h = rw (sym (any_float d) ∙ h) refl

pub out_of_range : (d : Data) → any_number is_float d ≡ false → has_large d ≡ true → checked d ≡ Err faults.IntegerRange
unfolding checked
out_of_range d h large = rw (sym (any_float d) ∙ h, large) refl

pub in_range : (d : Data) (j : Json) → any_number is_float d ≡ false → has_large d ≡ false → j ≡ json_of d → checked d ≡ Ok j
unfolding checked
in_range d j h large e = rw (sym (any_float d) ∙ h, large) (ap Ok (sym e))

pub a_text : (text : List ℕ) (d : Data) → IsUtf8 text → read text ≡ Some d → read_json text ≡ checked d
unfolding read_json
a_text text d utf8 e = rw (is_utf8-from_IsUtf8 text utf8, e) refl

no_text_by : (text : List ℕ) (b : Bool) → is_utf8 text ≡ b → (IsUtf8 text → read text ≡ None) → read_json text ≡ Err faults.NotJson
unfolding read_json
no_text_by text true e none = rw (e, none (IsUtf8-from_is_utf8 text e)) refl
no_text_by text false e none = rw e refl

pub no_text : (text : List ℕ) → (IsUtf8 text → read text ≡ None) → read_json text ≡ Err faults.NotJson
no_text text none = no_text_by text _ refl none

-- a text whose data are those of a value in range is read as the value
pub reads_as : (text : List ℕ) (j : Json) → IsUtf8 text → read text ≡ Some (data_of j) → IsInRange j → read_json text ≡ Ok j
reads_as text j utf8 is range =
    a_text text (data_of j) utf8 is ∙ in_range (data_of j) j (any_float (data_of j) ∙ is_whole j) range (sym (comes j range))
