-- How values fit that are made of values that fit.
use Rattle.std.proofs.Common.{◌≡◌, ◌≤◌, ℕ, suc, pos, Bool, true, false, ◌||◌, List, [], ◌∷◌, Option, Some, None, refl, sym, ap, ap₂, subst, ◌∙◌, arith}
use Rattle.std.proofs.lemmas.Bool.{and_from}
use Rattle.std.proofs.lemmas.Bool.Decides.{nat_tests}
use Rattle.std.proofs.lemmas.Str.{is_utf8-from_IsUtf8}
use Rattle.std.specs.List.{AllByRecursion}
use Rattle.std.specs.Option.{option_to_list}
use Rattle.json.proofs.Printed.Utf8.{IsUtf8-are_ascii, are_ascii}
use Rattle.serde_json.specs.Data.{Data, array, depth, members_depth}
use Rattle.mx_json.specs.Keys.{are_ordered, keys_of}
use Rattle.mx_json.specs.Laws.{data_keys, is_formed, members_are_formed}
use Rattle.mx_json.specs.Numbers.{any_in_members, has_large, is_large}
use Rattle.mx_json.specs.Values.{data_of, items_data, members_data}
use Rattle.mx_json.specs.declared.members.Member.{Member}
use Rattle.mx_json.specs.declared.value.Json.{Json}
use Rattle.mx_json.specs.declared.value.Json.TheVariants as json
use Rattle.mx_json.proofs.Data.{data-Bool, data-Int, data-List, data-Object, data-Text}
use Rattle.mx_event.specs.Forms.{member, member_if}
use Rattle.mx_copy.specs.Shown.{cut}
use Rattle.mx_copy.specs.Writable.{Fits, IsText}

-- the same of the data of a value
record DataFits (levels : ℕ) (d : Data) : Type 0 where
  in_range : has_large d ≡ false
  formed : is_formed d ≡ true
  shallow : depth d ≤ levels

from_data : (n : ℕ) (j : Json) (d : Data) → data_of j ≡ d → DataFits n d → Fits n j
from_data n j d is fits = record {
  in_range = ap has_large is ∙ fits.in_range;
  formed = ap is_formed is ∙ fits.formed;
  shallow = subst (λ e. depth e ≤ n) (sym is) fits.shallow;
}

pub deeper : (n m : ℕ) (j : Json) → n ≤ m → Fits n j → Fits m j
deeper n m j more fits = record { in_range = fits.in_range; formed = fits.formed; shallow = omega (arith, more, fits.shallow) }

pub literal : (key : List ℕ) → are_ascii key ≡ true → IsText key
literal key is = is_utf8-from_IsUtf8 key (IsUtf8-are_ascii key is)

module _ (n : ℕ) where
  pub text_fits : (text : List ℕ) → IsText text → Fits n (json.Text text)
  text_fits text is = from_data n _ _ (data-Text text) (record { in_range = refl; formed = is; shallow = omega arith })

  pub bool_fits : (b : Bool) → Fits n (json.Bool b)
  bool_fits b = from_data n _ _ (data-Bool b) (record { in_range = refl; formed = refl; shallow = omega arith })

  pub number_fits : (k : ℕ) → Fits n (json.Int (pos (cut k)))
  number_fits k = from_data n _ _ (data-Int (pos (cut k))) (record { in_range = grind (arith, nat_tests); formed = refl; shallow = omega arith })

  -- a member fits
  pub record MemberFits (m : Member Json) : Type 0 where
    pub key : IsText m.key
    pub value : Fits n m.value

  items_fit : (js : List Json) → AllByRecursion (Fits n) js → DataFits (suc n) (array (items_data js))
  items_fit [] all = record { in_range = refl; formed = refl; shallow = omega arith }
  items_fit (j ∷ js) all =
      let rest = items_fit js all.1 in
      record {
        in_range = ap₂ (λ a b. a || b) all.0.in_range rest.in_range;
        formed = and_from _ _ all.0.formed rest.formed;
        shallow = omega (arith, all.0.shallow, rest.shallow);
      }

  pub list_fits : (js : List Json) → AllByRecursion (Fits n) js → Fits (suc n) (json.List js)
  list_fits js all = from_data (suc n) _ _ (data-List js) (items_fit js all)

  record MembersFit (ms : List (Member Json)) : Type 0 where
    in_range : any_in_members is_large (members_data ms) ≡ false
    formed : members_are_formed (members_data ms) ≡ true
    keys : data_keys (members_data ms) ≡ keys_of ms
    shallow : members_depth (members_data ms) ≤ n

  members_fit : (ms : List (Member Json)) → AllByRecursion MemberFits ms → MembersFit ms
  members_fit [] all = record { in_range = refl; formed = refl; keys = refl; shallow = omega arith }
  members_fit (m ∷ ms) all =
      let rest = members_fit ms all.1 in
      record {
        in_range = ap₂ (λ a b. a || b) all.0.value.in_range rest.in_range;
        formed = and_from _ _ all.0.key (and_from _ _ all.0.value.formed rest.formed);
        keys = ap (λ ks. m.key ∷ ks) rest.keys;
        shallow = omega (arith, all.0.value.shallow, rest.shallow);
      }

  pub object_fits : (ms : List (Member Json)) → are_ordered (keys_of ms) ≡ true → AllByRecursion MemberFits ms → Fits (suc n) (json.Object ms)
  object_fits ms order all =
      let inner = members_fit ms all in
      from_data (suc n) _ _ (data-Object ms) (record {
        in_range = inner.in_range;
        formed = and_from _ _ (ap are_ordered inner.keys ∙ order) inner.formed;
        shallow = omega (arith, inner.shallow);
      })

  pub member_fits : (key : List ℕ) (j : Json) → are_ascii key ≡ true → Fits n j → MemberFits (member key j)
  member_fits key j is fits = record { key = literal key is; value = fits }

  pub if_fits : (key : List ℕ) (o : Option Json) → are_ascii key ≡ true → AllByRecursion (Fits n) (option_to_list o) → AllByRecursion MemberFits (member_if key o)
  if_fits key None is all = tt
  if_fits key (Some j) is all = (member_fits key j is all.0, tt)
