-- Tests of texts, and the members of an object.
use Rattle.std.proofs.Common.{◌≡◌, ℕ, List, false, ◌||◌, refl, sym, ap, ◌∙◌}
use Rattle.std.proofs.lemmas.Cmp.{nat_list_eq_equiv}
use Rattle.std.proofs.lemmas.Bool.{cases_Bool}
use Rattle.std.proofs.lemmas.Slice.Eq.{bytes_eq-Decides}
use Rattle.std.specs.Str.{bytes_eq}
use mathlib.Core.Logic.{⊎_elim}
use Rattle.mx_json.specs.Fields.{members_of, members_in}
use Rattle.mx_json.specs.declared.members.Member.{Member}
use Rattle.mx_json.specs.declared.value.Json as json
use Rattle.mx_json.specs.declared.value.Json.{Json}
use Rattle.mx_json.specs.declared.value.Json.TheOpen.{Json-F}
use Rattle.mx_json.specs.declared.value.Json.TheViews.{out-roll-Json}
use Rattle.mx_json.specs.declared.value.Json.TheVariants.{rolls-Object}

-- a text that isn't found
pub miss : (text found : List ℕ) → (found ≡ text → ⊥) → bytes_eq text found ≡ false
miss text found other = ⊎_elim (λ t. absurd (other (sym ((bytes_eq-Decides text found).0 t)))) (λ f. f) (cases_Bool (bytes_eq text found))

pub members_of-Object : (ms : List (Member Json)) → members_of (json.Object ms) ≡ ms
members_of-Object ms = ap members_of (sym (rolls-Object ms)) ∙ ap members_in (out-roll-Json (Json-F.Object ms))

-- the last test of a row, whose keys come to one
pub one_key : (key text : List ℕ) → bytes_eq key text ≡ ((bytes_eq text key || false) || false)
one_key key text = nat_list_eq_equiv.symm key text ∙ ⊎_elim (λ t. rw t refl) (λ f. rw f refl) (cases_Bool (bytes_eq text key))
