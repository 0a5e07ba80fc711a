-- An option that has a range has a number of the range after a parse, where it has a default or is given.
use Rattle.std.proofs.Common.{◌≡◌, ◌∙◌, ◌<◌, ◌≤◌, ℕ, Bool, zero, suc, true, false, List, [], ◌∷◌, length, is_some, Option, Some, None, refl, sym, ap, subst, inl, inr, arith}
use Rattle.std.specs.List.{All, slice_index_or}
use Rattle.std.specs.Str.{bytes_eq}
use Rattle.std.specs.Prelude.{find, option_map, slice_get, pos}
use Rattle.std.specs.Borrow.{Bor}
use Rattle.std.proofs.lemmas.Slice.Eq.{bytes_eq-Decides}
use Rattle.std.proofs.lemmas.List.Elements.{All-get_or}
use Rattle.clap.specs.Facts.{Entry, AllowsNone, EntryPasses, HasId, HasIn, HasReading, IsCountArg, IsGroupEntry, PassesArg, ValuesPass, WantsDefault, args_of, groups_of, least_values, parser_of, parser_of_value, unwrap_or_range}
use Rattle.clap.specs.Built.{IsAuto, IsParsedFrom, NamesNoGroup, SameRules}
use Rattle.clap.specs.Lexer.{without_minus}
use Rattle.clap.specs.Matches.{first_value, found_of, matched_of, one_text}
use Rattle.clap.specs.Simple.{IsSimple}
use Rattle.clap.specs.Texts.{items_of}
use Rattle.clap.specs.Values.{Accepts, IsSignedIn, read_as, reading_of}
use Rattle.clap.specs.Walk.{Rule, Text, rule_of, texts}
use Rattle.clap.specs.declared.builder.action.ArgAction.TheVariants.{Count, Set}
use Rattle.clap.specs.declared.builder.arg.Arg.{Arg}
use Rattle.clap.specs.declared.builder.command.Command.{Command}
use Rattle.clap.specs.declared.builder.value_parser.Reading.{Reading}
use Rattle.clap.specs.declared.builder.value_parser.Reading.TheVariants.{WithoutMinus}
use Rattle.clap.specs.declared.builder.value_parser.ValueParser.{ValueParser}
use Rattle.clap.specs.declared.builder.value_parser.ValueParser.TheVariants as vp
use Rattle.clap.specs.declared.parser.matches.ArgMatches.{ArgMatches}
use Rattle.clap.specs.declared.parser.matches.Found.{Found}
use Rattle.clap.specs.declared.parser.matches.MatchedArg.{MatchedArg}
use Rattle.clap.proofs.CallerLemmas.{default_present, entry_by_id, same_rules_by_id}

-- the entry of an id that has one
found_in : (xs : List Entry) (id : Text) → HasIn xs id → is_some (option_map (λ e. e.1) (find (λ e. bytes_eq e.0.now id) xs)) ≡ true
found_in [] id h = let bad : h.0 < 0 = h.1 in absurd (omega arith)
found_in (x ∷ xs) id h = go (bytes_eq x.0.now id) refl h.0 h.1 h.2 (found_in xs id)
  where
    go : (b : Bool) → bytes_eq x.0.now id ≡ b → (i : ℕ) → i < length (x ∷ xs) → ((d : Entry) → bytes_eq (slice_index_or (x ∷ xs) i d).0.now id ≡ true)
        → (HasIn xs id → is_some (option_map (λ e. e.1) (find (λ e. bytes_eq e.0.now id) xs)) ≡ true)
        → is_some (option_map (λ e. e.1) (find (λ e. bytes_eq e.0.now id) (x ∷ xs))) ≡ true
    go true t i lt at rest = rw t refl
    go false t zero lt at rest =
        let bad : false ≡ true = sym t ∙ at x in
        cc
    go false t (suc i) lt at rest = rw t (rest (i, omega arith, at))

nonempty : (xs : List (Bor Text)) → (texts xs ≡ [] → ⊥) → 0 < length xs
nonempty [] some = absurd (some refl)
nonempty (x ∷ xs) some = omega arith

-- the first of some values that all pass, as it is read and as it is
first_passes : (P : Bor Text → Type 0) (vs : List (Bor Text)) → All P vs → 0 < length vs
    → (v : Bor Text) × (option_map (λ s. read_as WithoutMinus s.now) (slice_get vs 0) ≡ Some (without_minus v.now)) × P v
    × (option_map (λ s. s.now) (slice_get vs 0) ≡ Some v.now)
first_passes P [] all lt = absurd (omega arith)
first_passes P (v ∷ vs) all lt = (v, refl, All-get_or P (v ∷ vs) 0 v (omega arith) all, refl)

-- what the built command `c` has under an id: the option `a`, with one value at a use, and a range from zero on
pub record Only (c : Command) (id : Text) (a : Arg) (low high : ℕ) : Type 0 where
  pub groups : groups_of c ≡ []
  pub named : id ≡ [] → ⊥
  pub same : (j : ℕ) (x : Arg) → j < length (args_of c) → slice_index_or (args_of c) j x ≡ x → bytes_eq x.id.now id ≡ true → SameRules a x
  pub action : a.action ≡ Some Set
  pub delimiter : a.val_delim ≡ None
  pub least : 1 ≤ least_values a
  pub parser : a.value_parser ≡ Some (vp.Signed (pos low) (pos high))

module _ {c : Command} {id : Text} {a : Arg} {low high : ℕ} (o : Only c id a low high) where
  abbrev has_parser : (x : Arg) → SameRules a x → parser_of x ≡ vp.Signed (pos low) (pos high)
  has_parser x s = ap parser_of_value (s.parser (vp.Signed (pos low) (pos high)) o.parser)

  in_range : (t : Text) → PassesArg c id t → IsSignedIn (pos low) (pos high) t
  in_range t pass =
      let s = o.same pass.0 pass.1 pass.2 pass.3 pass.4.0 in
      subst (λ (q : ValueParser). Accepts pass.1.ignore_case q t) (has_parser pass.1 s) pass.4.1

  read_plainly : (r : Reading) → HasReading c id r → r ≡ WithoutMinus
  read_plainly r any =
      let s = o.same any.0 any.1 any.2 any.3 any.4.0 in
      sym any.4.1 ∙ ap reading_of (has_parser any.1 s)

  no_group : (e : Entry) → e.0.now ≡ id → IsGroupEntry c e → e.1.is_group ≡ true → ⊥
  no_group e key groups g = elim (groups g) [
    | inl empty ↦ o.named (sym key ∙ empty)
    | inr lots ↦
        let bad : 0 < 0 = rw o.groups at lots in
        absurd (omega arith)
  ]

  no_count : IsCountArg c id → ⊥
  no_count any =
      let s = o.same any.0 any.1 any.2 any.3 any.4.0 in
      let is_set : any.1.action ≡ Some Set = s.action Set o.action in
      let bad : Set ≡ Count = rw is_set at any.4.1 in
      absurd cc

  no_empty : AllowsNone c id → ⊥
  no_empty any =
      let s = o.same any.0 any.1 any.2 any.3 any.4.0 in
      elim any.4.1 [
        | inl none ↦
            let one = s.least o.action o.least in
            absurd (omega arith)
        | inr has ↦
            let bad : false ≡ true = rw (s.val_delim, o.delimiter) at has in
            absurd cc
      ]

  has_value : (e : Entry) → e.0.now ≡ id → EntryPasses c e → 0 < length e.1.vals.items
  has_value e key pass = elim pass.1 [
    | inl h ↦ absurd (no_group e key pass.3 h.0)
    | inr (inl v) ↦ v
    | inr (inr (inl h)) ↦ absurd (no_count (subst (IsCountArg c) key h.1))
    | inr (inr (inr h)) ↦ absurd (no_empty (subst (AllowsNone c) key h))
  ]

  all_pass : (e : Entry) → e.0.now ≡ id → EntryPasses c e → All (λ v. PassesArg c id v.now) e.1.vals.items
  all_pass e key pass = elim pass.0 [
    | inl g ↦ absurd (no_group e key pass.3 g)
    | inr vals ↦ subst (λ (w : Text). All (λ v. PassesArg c w v.now) e.1.vals.items) key vals
  ]

  plain_reading : (e : Entry) → e.0.now ≡ id → EntryPasses c e → e.1.reading ≡ WithoutMinus
  plain_reading e key pass = elim pass.4 [
    | inl g ↦ absurd (no_group e key pass.3 g)
    | inr h ↦ read_plainly e.1.reading (subst (λ (w : Text). HasReading c w e.1.reading) key h)
  ]

  entry_in_range : (e : Entry) → e.0.now ≡ id → EntryPasses c e
      → (t : Text) × (option_map (λ s. read_as e.1.reading s.now) (slice_get e.1.vals.items 0) ≡ Some (without_minus t)) × IsSignedIn (pos low) (pos high) t
      × (option_map (λ s. s.now) (slice_get e.1.vals.items 0) ≡ Some t)
  entry_in_range e key pass =
      let first = first_passes (λ v. PassesArg c id v.now) e.1.vals.items (all_pass e key pass) (has_value e key pass) in (
        first.0.now,
        ap (λ (r : Reading). option_map (λ s. read_as r s.now) (slice_get e.1.vals.items 0)) (plain_reading e key pass) ∙ first.1,
        in_range first.0.now first.2,
        first.3,
      )

  -- the text of an option that has an entry
  pub text_in_range : (f : Found) → ValuesPass c f → HasId f id → (t : Text) × (one_text f id ≡ Some (without_minus t)) × IsSignedIn (pos low) (pos high) t
  text_in_range f values has = go (matched_of f id) refl (found_in f.entries.items id has) where
    at_entry : (x : MatchedArg) → matched_of f id ≡ Some x → ((e : Entry) × (e.1 ≡ x) × (bytes_eq e.0.now id ≡ true) × EntryPasses c e)
        → (t : Text) × (one_text f id ≡ Some (without_minus t)) × IsSignedIn (pos low) (pos high) t
    at_entry x found got =
        let key : got.0.0.now ≡ id = (bytes_eq-Decides got.0.0.now id).0 got.2 in
        let read = entry_in_range got.0 key got.3 in
        (read.0, rw (found, sym got.1) read.1, read.2)

    go : (m : Option MatchedArg) → matched_of f id ≡ m → is_some (matched_of f id) ≡ true
        → (t : Text) × (one_text f id ≡ Some (without_minus t)) × IsSignedIn (pos low) (pos high) t
    go None found some = absurd cc
    go (Some x) found some = at_entry x found (entry_by_id (EntryPasses c) f.entries.items id x values found)

  -- the text of an option, if it is given
  pub text_if_given : (f : Found) → ValuesPass c f → (t : Text) → first_value f id ≡ Some t
      → (one_text f id ≡ Some (without_minus t)) × IsSignedIn (pos low) (pos high) t
  text_if_given f values t given = go (matched_of f id) refl where
    at_entry : (x : MatchedArg) → matched_of f id ≡ Some x → ((e : Entry) × (e.1 ≡ x) × (bytes_eq e.0.now id ≡ true) × EntryPasses c e)
        → (one_text f id ≡ Some (without_minus t)) × IsSignedIn (pos low) (pos high) t
    at_entry x found got =
        let key : got.0.0.now ≡ id = (bytes_eq-Decides got.0.0.now id).0 got.2 in
        let read = entry_in_range got.0 key got.3 in
        let plain : first_value f id ≡ Some read.0 = rw (found, sym got.1) read.3 in
        let same : read.0 ≡ t = cc (plain, given) in
        subst (λ (u : Text). (one_text f id ≡ Some (without_minus u)) × IsSignedIn (pos low) (pos high) u) same (rw (found, sym got.1) read.1, read.2)

    go : (m : Option MatchedArg) → matched_of f id ≡ m → (one_text f id ≡ Some (without_minus t)) × IsSignedIn (pos low) (pos high) t
    go None found =
        let bad = rw found at given in
        absurd (cc (bad))
    go (Some x) found = at_entry x found (entry_by_id (EntryPasses c) f.entries.items id x values found)

-- an option of the caller's command by its place, whose rule has a range, and whose id is no other's
only : (old : Command) (m : ArgMatches) (p : IsParsedFrom old m) → IsSimple old → NamesNoGroup old
    → (k : ℕ) (d : Arg) → k < length (args_of old) → (r : Rule) → rule_of (slice_index_or (args_of old) k d) ≡ r
    → r.action ≡ Some Set → r.range ≡ None → (low high : ℕ) → r.parser ≡ Some (vp.Signed (pos low) (pos high))
    → ((j : ℕ) (e : Arg) → j < length (args_of old)
    → bytes_eq (slice_index_or (args_of old) j e).id.now (slice_index_or (args_of old) k d).id.now ≡ true → j ≡ k)
    → ((slice_index_or (args_of old) k d).id.now ≡ [] → ⊥) → (IsAuto (slice_index_or (args_of old) k d) → ⊥)
    → Only p.built (slice_index_or (args_of old) k d).id.now (slice_index_or (args_of old) k d) low high
only old m p simple names k d lt r rule set range low high parser unique named own =
    let a = slice_index_or (args_of old) k d in
    let one : least_values a ≡ 1 = ap (λ v. (unwrap_or_range v).start_inclusive) (ap (λ (x : Rule). x.range) rule ∙ range) in
    record {
      groups = (p.from.same_groups names).1 ∙ simple.groups;
      named = named;
      same = same_rules_by_id old m p k d lt unique own;
      action = ap (λ (x : Rule). x.action) rule ∙ set;
      delimiter = (simple.args k d lt).delimiter;
      least = omega (arith, one);
      parser = ap (λ (x : Rule). x.parser) rule ∙ parser;
    }

-- where its rule has a default besides, it has a number of the range
pub ranged : (old : Command) (m : ArgMatches) (p : IsParsedFrom old m) → IsSimple old → NamesNoGroup old
    → (k : ℕ) (d : Arg) → k < length (args_of old) → (r : Rule) → rule_of (slice_index_or (args_of old) k d) ≡ r
    → r.action ≡ Some Set → r.range ≡ None → (r.defaults ≡ [] → ⊥) → (low high : ℕ) → r.parser ≡ Some (vp.Signed (pos low) (pos high))
    → ((j : ℕ) (e : Arg) → j < length (args_of old)
    → bytes_eq (slice_index_or (args_of old) j e).id.now (slice_index_or (args_of old) k d).id.now ≡ true → j ≡ k)
    → ((slice_index_or (args_of old) k d).id.now ≡ [] → ⊥) → (IsAuto (slice_index_or (args_of old) k d) → ⊥)
    → (t : Text) × (one_text (found_of m) (slice_index_or (args_of old) k d).id.now ≡ Some (without_minus t)) × IsSignedIn (pos low) (pos high) t
ranged old m p simple names k d lt r rule set range default low high parser unique named own =
    let a = slice_index_or (args_of old) k d in
    let wants : WantsDefault a =
    ((simple.args k d lt).default_ifs, nonempty (items_of a.default_vals) (λ e. default (sym (ap (λ (x : Rule). x.defaults) rule) ∙ e))) in
    let parsed = p.parsed (p.from.globals ∙ simple.globals) in
    text_in_range (only old m p simple names k d lt r rule set range low high parser unique named own) (found_of m) parsed.values
    (default_present old m p simple.globals k d lt wants)

-- with a default or with none, a text that is given is a number of the range
pub ranged_if_given : (old : Command) (m : ArgMatches) (p : IsParsedFrom old m) → IsSimple old → NamesNoGroup old
    → (k : ℕ) (d : Arg) → k < length (args_of old) → (r : Rule) → rule_of (slice_index_or (args_of old) k d) ≡ r
    → r.action ≡ Some Set → r.range ≡ None → (low high : ℕ) → r.parser ≡ Some (vp.Signed (pos low) (pos high))
    → ((j : ℕ) (e : Arg) → j < length (args_of old)
    → bytes_eq (slice_index_or (args_of old) j e).id.now (slice_index_or (args_of old) k d).id.now ≡ true → j ≡ k)
    → ((slice_index_or (args_of old) k d).id.now ≡ [] → ⊥) → (IsAuto (slice_index_or (args_of old) k d) → ⊥)
    → (t : Text) → first_value (found_of m) (slice_index_or (args_of old) k d).id.now ≡ Some t
    → (one_text (found_of m) (slice_index_or (args_of old) k d).id.now ≡ Some (without_minus t)) × IsSignedIn (pos low) (pos high) t
ranged_if_given old m p simple names k d lt r rule set range low high parser unique named own =
    let parsed = p.parsed (p.from.globals ∙ simple.globals) in
    text_if_given (only old m p simple names k d lt r rule set range low high parser unique named own) (found_of m) parsed.values
