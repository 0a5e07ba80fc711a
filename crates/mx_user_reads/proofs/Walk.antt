-- A user's filter is looked for among the user's filters.
use Rattle.std.proofs.Common.{◌≡◌, ℕ, Bool, true, false, cond, ◌&&◌, nat_eq, nat_le, nat_lt, List, [], ◌∷◌, filter, length, take, Option, Some, None, refl, sym, ap, ◌∙◌, arith}
use Rattle.std.proofs.lemmas.List.{take_all}
use Rattle.std.specs.Option.{option_or}
use Rattle.std.specs.Str.{bytes_eq}
use Rattle.mx_account.specs.Entries.{position_of}
use Rattle.mx_account.specs.declared.entry.Entry.{Entry}
use Rattle.mx_account.specs.declared.entry.Entry.TheVariants as entry
use Rattle.mx_json.specs.declared.value.Json.{Json}
use Rattle.mx_window.specs.Windows.{between, stand_from}
use Rattle.mx_window.proofs.Each.{filter-swap}
use Rattle.mx_window.proofs.Intervals.{between-take}
use Rattle.mx_snapshot.specs.Accounts.{filters_of, is_filter_of}
use Rattle.mx_user_reads.specs.Filters.{filter_in, first_filter}

module _ (user : List ℕ) (number : ℕ) where
  -- the first from an entry on is that entry, or the first behind it
  pub one_on : (es rest : List Entry) (e : Entry) (found : Option Json) → es ≡ e ∷ rest → found ≡ filter_in user number e → option_or found (first_filter user number rest) ≡ first_filter user number es
  one_on es rest e found cut is = ap (λ o. option_or o (first_filter user number rest)) is ∙ ap (first_filter user number) (sym cut)

  among : (es : List Entry) → first_filter user number (filters_of user es) ≡ first_filter user number es
  among [] = refl
  among (entry.Data own room kind content at ∷ es) = among es
  among (entry.Filter own id held at ∷ es) = by_test (bytes_eq own user) refl (among es) where
    by_test : (b : Bool) → bytes_eq own user ≡ b → first_filter user number (filters_of user es) ≡ first_filter user number es
        → first_filter user number (cond b (entry.Filter own id held at ∷ filters_of user es) (filters_of user es))
        ≡ option_or (cond (bytes_eq own user && nat_eq id number) (Some held) None) (first_filter user number es)
    by_test true is rest = ap (option_or (cond (bytes_eq own user && nat_eq id number) (Some held) None)) rest
    by_test false is rest = rest ∙ ap (λ b. option_or (cond (b && nat_eq id number) (Some held) None) (first_filter user number es)) (sym is)

  -- the first of the user's filters is the first among all entries
  pub first_is : (es : List Entry) (front : ℕ) → stand_from position_of 1 es ≡ true → front ≡ length es → first_filter user number (between position_of 0 front (filters_of user es)) ≡ first_filter user number es
  first_is es front placed count =
      ap (first_filter user number) (filter-swap (λ (e : Entry). nat_lt 0 (position_of e) && nat_le (position_of e) front) (is_filter_of user) es
      ∙ ap (filter (is_filter_of user)) (between-take position_of front es placed ∙ take_all front es (omega (arith, count))))
      ∙ among es
