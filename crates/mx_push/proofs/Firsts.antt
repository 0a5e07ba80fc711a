-- The first rule that matches, among rules that stand behind others.
use Rattle.std.proofs.Common.{◌≡◌, Bool, true, false, List, [], ◌∷◌, ◌++◌, Option, Some, None, option_map, if◌then◌else◌, Bor, refl, sym, ◌∙◌}
use Rattle.mx_json.specs.declared.value.Json.{Json}
use Rattle.mx_event.specs.declared.event.Event.{Event}
use Rattle.mx_rules.specs.Rules.{Rules}
use Rattle.mx_push.specs.Notifies.{by_conditions, by_id, by_pattern, first_match, judged}
use Rattle.mx_push.specs.Settings.{Setting}

first_stays : (xs ys : List (Bool × List Json)) (js : List Json) → first_match xs ≡ Some js → first_match (xs ++ ys) ≡ Some js
first_stays [] ys js is = absurd cc
first_stays (x ∷ xs) ys js is = by_test x.0 is (first_stays xs ys js)
  where
    by_test : (b : Bool) → (if b then Some x.1 else first_match xs) ≡ Some js → (first_match xs ≡ Some js → first_match (xs ++ ys) ≡ Some js) → (if b then Some x.1 else first_match (xs ++ ys)) ≡ Some js
    by_test true h rest = h
    by_test false h rest = rest h

none_before : (xs ys : List (Bool × List Json)) → first_match xs ≡ None → first_match (xs ++ ys) ≡ first_match ys
none_before [] ys is = refl
none_before (x ∷ xs) ys is = by_test x.0 is (none_before xs ys)
  where
    by_test : (b : Bool) → (if b then Some x.1 else first_match xs) ≡ None → (first_match xs ≡ None → first_match (xs ++ ys) ≡ first_match ys) → (if b then Some x.1 else first_match (xs ++ ys)) ≡ first_match ys
    by_test true h rest = absurd cc
    by_test false h rest = rest h

-- a rule of these that matches is the first
pub here : (xs ys : List (Bool × List Json)) (js : List Json) → Some js ≡ first_match xs → Some js ≡ first_match (xs ++ ys)
here xs ys js is = sym (first_stays xs ys js (sym is))

-- where none of these matches, it is the first of those behind
pub past : (o : Option (Bor (List Json))) (xs ys : List (Bool × List Json)) (p : Option (List Json)) → option_map (λ js. js.now) o ≡ first_match xs → ((x : Bor (List Json)) → o ≡ Some x → ⊥) → p ≡ first_match ys → p ≡ first_match (xs ++ ys)
past None xs ys p is none later = later ∙ sym (none_before xs ys (sym is))
past (Some x) xs ys p is none later = absurd (none x refl)

-- the rules of each kind, and those below them
module _ (rs : Rules) (s : Setting) (e : Event) where
  abbrev pub overrides : List (Bool × List Json)
  overrides = judged (by_conditions s e) rs.override_rules

  abbrev pub contents : List (Bool × List Json)
  contents = judged (by_pattern s e) rs.content

  abbrev pub rooms : List (Bool × List Json)
  rooms = judged (by_id s.room e) rs.room

  abbrev pub senders : List (Bool × List Json)
  senders = judged (by_id e.sender e) rs.sender

  abbrev pub underrides : List (Bool × List Json)
  underrides = judged (by_conditions s e) rs.underride

  abbrev pub below_rooms : List (Bool × List Json)
  below_rooms = senders ++ underrides

  abbrev pub below_contents : List (Bool × List Json)
  below_contents = rooms ++ below_rooms

  abbrev pub below_overrides : List (Bool × List Json)
  below_overrides = contents ++ below_contents
