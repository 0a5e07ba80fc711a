-- The push rules that were read last: at the position of what stores them, and over longer account data.
use Rattle.std.proofs.Common.{◌≡◌, ℕ, zero, suc, ◌≤◌, ◌<◌, ◌+◌, Bool, true, ◌==◌, ◌&&◌, List, [], ◌∷◌, ◌++◌, length, take, Option, Some, None, option_map, codes, nat_eq, nat_lt, nat_le, refl, ap, ap₂, sym, subst, ◌∙◌, arith, le-leb}
use Rattle.std.proofs.lemmas.Bool.{and_parts, eqb-true}
use Rattle.std.proofs.lemmas.Slice.Eq.{bytes_eq-Decides}
use Rattle.std.specs.List.{AllByRecursion}
use Rattle.std.specs.Str.{bytes_eq}
use Rattle.mx_account.specs.Entries as account
use Rattle.mx_account.specs.Entries.{content_of, is_data_of}
use Rattle.mx_account.specs.Values as values
use Rattle.mx_account.specs.declared.entry.Entry.{Entry}
use Rattle.mx_rules.specs.Rules.{rules_of}
use Rattle.mx_window.specs.Lasts.{last_at, last_of}
use Rattle.mx_window.specs.Windows.{between, stand_from}
use Rattle.mx_window.proofs.Each.{AllByRecursion-both, AllByRecursion-filter, AllByRecursion-weaker}
use Rattle.mx_window.proofs.Intervals.{between-within}
use Rattle.mx_window.proofs.Lasts.{last_of-some}
use Rattle.mx_unread.specs.Standing.{AreOf, AreRead, RulesLast, is_of}
use Rattle.mx_unread.specs.Unread.{rules_at, rules_by}
use Rattle.mx_unread.specs.declared.read_rules.ReadRules.{ReadRules}
use Rattle.mx_unread.proofs.Keeping.{entries_ascend, rules_stay}
use Rattle.mx_unread.proofs.Lasting.{window_taken}

-- ---- at the position of what stores them

-- the position of a user's last push rules up to a position
abbrev last_rules : List ℕ → ℕ → List Entry → ℕ
last_rules user to entries = last_at account.position_of 0 (last_of (is_data_of user None (codes "m.push_rules")) (between account.position_of 0 to entries))

all_within : {E : Type 0} (at : E → ℕ) (first : ℕ) (es : List E) → stand_from at first es ≡ true → AllByRecursion (λ e. at e + 1 ≤ first + length es) es
all_within at first [] stands = tt
all_within at first (e ∷ es) stands =
    let parts = and_parts (nat_eq (at e) first) (stand_from at (first + 1) es) stands in
    let here : at e ≡ first = eqb-true (at e) first parts.0 in
    (omega (arith, here), AllByRecursion-weaker (λ d. at d + 1 ≤ (first + 1) + length es) (λ d. at d + 1 ≤ first + length (e ∷ es)) (λ d h. omega (arith, h)) es (all_within at (first + 1) es parts.1))

module _ {E : Type 0} (at : E → ℕ) (test : E → Bool) (to : ℕ) (es : List E) (stands : stand_from at 1 es ≡ true) where
  last_within : (o : Option E) → last_of test (between at 0 to es) ≡ o → (last_at at 0 o ≤ to) × (last_at at 0 o ≤ length es)
  last_within None is = (omega arith, omega arith)
  last_within (Some e) is =
      let both = (last_of-some (λ (d : E). ((0 < at d) × (at d ≤ to)) × (at d + 1 ≤ 1 + length es)) test (between at 0 to es) e
      (AllByRecursion-both (λ (d : E). (0 < at d) × (at d ≤ to)) (λ (d : E). at d + 1 ≤ 1 + length es) (between at 0 to es) (between-within at 0 to es)
      (AllByRecursion-filter (λ (d : E). at d + 1 ≤ 1 + length es) (λ (d : E). nat_lt 0 (at d) && nat_le (at d) to) es (all_within at 1 es stands))) is).1 in
      let past : at e + 1 ≤ 1 + length es = both.1 in
      (both.0.1, omega (arith, past))

module _ (user : List ℕ) (position at : ℕ) (entries : List Entry) (placed : values.AreInPlace entries) (is : at ≡ last_rules user position entries) where
  within : (at ≤ position) × (at ≤ length entries)
  within = subst (λ n. (n ≤ position) × (n ≤ length entries)) (sym is) (last_within account.position_of (is_data_of user None (codes "m.push_rules")) position entries placed _ refl)

  same : rules_at user position entries ≡ rules_at user at entries
  same = rules_stay user at position at entries (entries_ascend entries placed) within.0 is (le-leb at at (omega arith))

  pub rules_there : (r : ReadRules) → AreOf r user at entries → rules_of r.rules ≡ rules_at user position entries
  rules_there r of' = of'.rules_are ∙ sym same

  pub read_there : (r : ReadRules) → AreOf r user at entries → AreRead entries (Some r)
  read_there r of' =
      (subst (λ n. n ≤ length entries) (sym of'.at_is) within.1, of'.rules_are ∙ ap₂ (λ (u : List ℕ) (n : ℕ). rules_at u n entries) (sym of'.user_is) (sym of'.at_is))

pub known_of : (r : ReadRules) (user : List ℕ) (at : ℕ) (entries : List Entry) → is_of user at r ≡ true → AreRead entries (Some r) → AreOf r user at entries
known_of r user at entries h read =
    let parts = and_parts (r.at == at) (bytes_eq r.user user) h in
    let place : r.at ≡ at = eqb-true r.at at parts.0 in
    let of-user : r.user ≡ user = (bytes_eq-Decides r.user user).0 parts.1 in
    record { user_is = of-user; at_is = place; rules_are = read.1 ∙ ap₂ (λ (u : List ℕ) (n : ℕ). rules_at u n entries) of-user place }

-- ---- over longer account data

rules_upto : (user : List ℕ) (at : ℕ) (entries : List Entry) → values.AreInPlace entries → rules_at user at (take at entries) ≡ rules_at user at entries
rules_upto user at entries placed =
    ap (λ (es : List Entry). rules_by user (option_map content_of (last_of (is_data_of user None (codes "m.push_rules")) es))) (window_taken account.position_of at entries placed)

first_same : {A : Type 0} (n : ℕ) (xs more : List A) → n ≤ length xs → take n xs ≡ take n (xs ++ more)
first_same zero xs more h = refl
first_same (suc n) [] more h = absurd (omega (arith, h))
first_same (suc n) (x ∷ xs) more h = ap (λ l. x ∷ l) (first_same n xs more (omega (arith, h)))

longer : (xs more : List Entry) → length xs ≤ length (xs ++ more)
longer [] more = omega arith
longer (x ∷ xs) more = let rest = longer xs more in omega (arith, rest)

pub rules_last : RulesLast
rules_last None a b placed_a placed_b begins read = tt
rules_last (Some r) a b placed_a placed_b begins read =
    let within : r.at ≤ length a = read.0 in
    let long : length a ≤ length b = subst (λ (l : List Entry). length a ≤ length l) (sym begins.1) (longer a begins.0) in (
      omega (arith, within, long),
      read.1 ∙ sym (rules_upto r.user r.at a placed_a) ∙ ap (rules_at r.user r.at) (first_same r.at a begins.0 within ∙ ap (take r.at) (sym begins.1))
          ∙ rules_upto r.user r.at b placed_b,
    )
