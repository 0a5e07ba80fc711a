-- What a parse by the program's command gives.
use Rattle.std.proofs.Common.{◌≡◌, ◌⊎◌, ◌∙◌, ◌<◌, ℕ, zero, suc, true, false, List, [], ◌∷◌, length, map, Some, codes, refl, sym, ap, subst, inl, inr, arith, slice_index}
use Rattle.std.specs.List.{list_all, slice_index_or}
use Rattle.std.specs.Str.{bytes_eq}
use Rattle.std.specs.Prelude.{Result, Ok, Err, pos}
use Rattle.std.proofs.lemmas.List.{length-map}
use Rattle.clap.specs.Built.{IsParsedFrom, NamesNoGroup}
use Rattle.clap.specs.Facts.{args_of}
use Rattle.clap.specs.Faults.{fault_of, is_simple_and_free}
use Rattle.clap.specs.Kinds.{HasKind, IsAmong, Kinds}
use Rattle.clap.specs.Lexer.{without_minus}
use Rattle.clap.specs.Matches.{first_value, found_of, one_text}
use Rattle.clap.specs.Simple.{App, HasMatchesOf, IsSimple, app_of, is_ready, is_ready_leaf, is_simple, matches_of}
use Rattle.clap.specs.Values.{IsSignedIn, kind_of}
use Rattle.clap.specs.Walk.{Rule, Text, rows_of, rule_of}
use Rattle.clap.specs.declared.builder.arg.Arg.{Arg}
use Rattle.clap.specs.declared.builder.command.Command.{Command}
use Rattle.clap.specs.declared.error.Error.{Error}
use Rattle.clap.specs.declared.error.kind.ErrorKind.{ErrorKind}
use Rattle.clap.specs.declared.error.kind.ErrorKind.TheVariants as kinds
use Rattle.clap.specs.declared.parser.matches.ArgMatches.{ArgMatches}
use Rattle.clap.specs.declared.parser.matches.Found.{Found}
use Rattle.clap.proofs.SimpleLemmas.{ready_simple, simple_groups}
use Rattle.mx_words.specs.Matches.{HasNumberIfGiven, HasNumberUpTo, IsAskedBy, IsParse, IsRunBy}
use Rattle.mx_words.specs.Program.{program, rules}
use Rattle.mx_words.specs.Words.{IsRead, Refused, Said, asked_by, asked_of, by_kind, by_said, said_of}
use Rattle.mx_words.specs.declared.words.Asked.{Asked}
use Rattle.mx_words.specs.declared.words.Asked.TheVariants as asked
use Rattle.mx_words.specs.declared.words.Words.{Words}
use Rattle.mx_words.specs.declared.words.WordsFault.{WordsFault}
use Rattle.mx_words.specs.declared.words.WordsFault.TheVariants as faults
use Rattle.mx_words.proofs.Defaults.{ranged, ranged_if_given}
use Rattle.mx_words.proofs.OneKind.{One, one_kind}
use Rattle.mx_words.proofs.Ranges.{in_range}

-- the rule of an argument by its place
rule_at : (xs : List Arg) (k : ℕ) (d : Arg) → k < length xs → rule_of (slice_index_or xs k d) ≡ slice_index_or (map rule_of xs) k (rule_of d)
rule_at [] k d lt = absurd (omega arith)
rule_at (x ∷ xs) zero d lt = refl
rule_at (x ∷ xs) (suc k) d lt = rule_at xs k d (omega arith)

only_threads : (j : ℕ) (r : Rule) → j < 10 → bytes_eq (slice_index_or rules j r).id (codes "threads") ≡ true → j ≡ 3
only_threads zero r lt e = let bad : false ≡ true = e in cc
only_threads (suc zero) r lt e = let bad : false ≡ true = e in cc
only_threads (suc (suc zero)) r lt e = let bad : false ≡ true = e in cc
only_threads (suc (suc (suc zero))) r lt e = refl
only_threads (suc (suc (suc (suc zero)))) r lt e = let bad : false ≡ true = e in cc
only_threads (suc (suc (suc (suc (suc zero))))) r lt e = let bad : false ≡ true = e in cc
only_threads (suc (suc (suc (suc (suc (suc zero)))))) r lt e = let bad : false ≡ true = e in cc
only_threads (suc (suc (suc (suc (suc (suc (suc zero))))))) r lt e = let bad : false ≡ true = e in cc
only_threads (suc (suc (suc (suc (suc (suc (suc (suc zero)))))))) r lt e = let bad : false ≡ true = e in cc
only_threads (suc (suc (suc (suc (suc (suc (suc (suc (suc zero))))))))) r lt e = let bad : false ≡ true = e in cc
only_threads (suc (suc (suc (suc (suc (suc (suc (suc (suc (suc j)))))))))) r lt e = absurd (omega arith)

only_workers : (j : ℕ) (r : Rule) → j < 10 → bytes_eq (slice_index_or rules j r).id (codes "workers") ≡ true → j ≡ 4
only_workers zero r lt e = let bad : false ≡ true = e in cc
only_workers (suc zero) r lt e = let bad : false ≡ true = e in cc
only_workers (suc (suc zero)) r lt e = let bad : false ≡ true = e in cc
only_workers (suc (suc (suc zero))) r lt e = let bad : false ≡ true = e in cc
only_workers (suc (suc (suc (suc zero)))) r lt e = refl
only_workers (suc (suc (suc (suc (suc zero))))) r lt e = let bad : false ≡ true = e in cc
only_workers (suc (suc (suc (suc (suc (suc zero)))))) r lt e = let bad : false ≡ true = e in cc
only_workers (suc (suc (suc (suc (suc (suc (suc zero))))))) r lt e = let bad : false ≡ true = e in cc
only_workers (suc (suc (suc (suc (suc (suc (suc (suc zero)))))))) r lt e = let bad : false ≡ true = e in cc
only_workers (suc (suc (suc (suc (suc (suc (suc (suc (suc zero))))))))) r lt e = let bad : false ≡ true = e in cc
only_workers (suc (suc (suc (suc (suc (suc (suc (suc (suc (suc j)))))))))) r lt e = absurd (omega arith)

only_connections : (j : ℕ) (r : Rule) → j < 10 → bytes_eq (slice_index_or rules j r).id (codes "connections") ≡ true → j ≡ 5
only_connections zero r lt e = let bad : false ≡ true = e in cc
only_connections (suc zero) r lt e = let bad : false ≡ true = e in cc
only_connections (suc (suc zero)) r lt e = let bad : false ≡ true = e in cc
only_connections (suc (suc (suc zero))) r lt e = let bad : false ≡ true = e in cc
only_connections (suc (suc (suc (suc zero)))) r lt e = let bad : false ≡ true = e in cc
only_connections (suc (suc (suc (suc (suc zero))))) r lt e = refl
only_connections (suc (suc (suc (suc (suc (suc zero)))))) r lt e = let bad : false ≡ true = e in cc
only_connections (suc (suc (suc (suc (suc (suc (suc zero))))))) r lt e = let bad : false ≡ true = e in cc
only_connections (suc (suc (suc (suc (suc (suc (suc (suc zero)))))))) r lt e = let bad : false ≡ true = e in cc
only_connections (suc (suc (suc (suc (suc (suc (suc (suc (suc zero))))))))) r lt e = let bad : false ≡ true = e in cc
only_connections (suc (suc (suc (suc (suc (suc (suc (suc (suc (suc j)))))))))) r lt e = absurd (omega arith)

only_requests : (j : ℕ) (r : Rule) → j < 10 → bytes_eq (slice_index_or rules j r).id (codes "requests") ≡ true → j ≡ 6
only_requests zero r lt e = let bad : false ≡ true = e in cc
only_requests (suc zero) r lt e = let bad : false ≡ true = e in cc
only_requests (suc (suc zero)) r lt e = let bad : false ≡ true = e in cc
only_requests (suc (suc (suc zero))) r lt e = let bad : false ≡ true = e in cc
only_requests (suc (suc (suc (suc zero)))) r lt e = let bad : false ≡ true = e in cc
only_requests (suc (suc (suc (suc (suc zero))))) r lt e = let bad : false ≡ true = e in cc
only_requests (suc (suc (suc (suc (suc (suc zero)))))) r lt e = refl
only_requests (suc (suc (suc (suc (suc (suc (suc zero))))))) r lt e = let bad : false ≡ true = e in cc
only_requests (suc (suc (suc (suc (suc (suc (suc (suc zero)))))))) r lt e = let bad : false ≡ true = e in cc
only_requests (suc (suc (suc (suc (suc (suc (suc (suc (suc zero))))))))) r lt e = let bad : false ≡ true = e in cc
only_requests (suc (suc (suc (suc (suc (suc (suc (suc (suc (suc j)))))))))) r lt e = absurd (omega arith)

only_idle : (j : ℕ) (r : Rule) → j < 10 → bytes_eq (slice_index_or rules j r).id (codes "idle") ≡ true → j ≡ 7
only_idle zero r lt e = let bad : false ≡ true = e in cc
only_idle (suc zero) r lt e = let bad : false ≡ true = e in cc
only_idle (suc (suc zero)) r lt e = let bad : false ≡ true = e in cc
only_idle (suc (suc (suc zero))) r lt e = let bad : false ≡ true = e in cc
only_idle (suc (suc (suc (suc zero)))) r lt e = let bad : false ≡ true = e in cc
only_idle (suc (suc (suc (suc (suc zero))))) r lt e = let bad : false ≡ true = e in cc
only_idle (suc (suc (suc (suc (suc (suc zero)))))) r lt e = let bad : false ≡ true = e in cc
only_idle (suc (suc (suc (suc (suc (suc (suc zero))))))) r lt e = refl
only_idle (suc (suc (suc (suc (suc (suc (suc (suc zero)))))))) r lt e = let bad : false ≡ true = e in cc
only_idle (suc (suc (suc (suc (suc (suc (suc (suc (suc zero))))))))) r lt e = let bad : false ≡ true = e in cc
only_idle (suc (suc (suc (suc (suc (suc (suc (suc (suc (suc j)))))))))) r lt e = absurd (omega arith)

-- a text with this first byte is no option that building adds
not_auto : (t : Text) (x : ℕ) → slice_index t 0 ≡ x → (x ≡ 104 → ⊥) → (x ≡ 118 → ⊥) → (t ≡ codes "help") ⊎ (t ≡ codes "version") → ⊥
not_auto t x is no_h no_v (inl e) = no_h (sym is ∙ ap (λ (u : Text). slice_index u 0) e)
not_auto t x is no_h no_v (inr e) = no_v (sym is ∙ ap (λ (u : Text). slice_index u 0) e)

-- the number of an option
number : (most : ℕ) (f : Found) (id : Text) → ((t : Text) × (one_text f id ≡ Some (without_minus t)) × IsSignedIn (pos 1) (pos most) t) → HasNumberUpTo most f id
number most f id got =
    let read = in_range most got.0 got.2 in
    (got.0, got.1 ∙ ap (λ (t : Text). Some t) read.0, read.1, read.2, read.3)

-- the number of an option that may have none
number_if_given : (most : ℕ) (f : Found) (id : Text)
    → ((t : Text) → first_value f id ≡ Some t → (one_text f id ≡ Some (without_minus t)) × IsSignedIn (pos 1) (pos most) t)
    → HasNumberIfGiven most f id
number_if_given most f id got t given =
    let has = got t given in
    let read = in_range most t has.1 in
    (has.0 ∙ ap (λ (t : Text). Some t) read.0, read.1, read.2, read.3)

module _ (c : Command) (m : ArgMatches) (p : IsParsedFrom c m) (is : app_of c ≡ program) where
  simple : IsSimple c
  simple = ready_simple c (ap (λ (a : App). is_ready a.top) is) (ap (λ (a : App). list_all is_ready_leaf a.subs) is)

  names : NamesNoGroup c
  names = simple_groups c (ap (λ (a : App). list_all (λ (r : Rule). r.is_simple) a.top.rules) is)

  rules_are : map rule_of (args_of c) ≡ rules
  rules_are = ap (λ (a : App). a.top.rules) is

  ten : length (args_of c) ≡ 10
  ten = sym (length-map (args_of c) rule_of) ∙ ap length rules_are

  at : (k : ℕ) (d : Arg) → k < length (args_of c) → rule_of (slice_index_or (args_of c) k d) ≡ slice_index_or rules k (rule_of d)
  at k d lt = rule_at (args_of c) k d lt ∙ ap (λ rs. slice_index_or rs k (rule_of d)) rules_are

  id_at : (k : ℕ) (d : Arg) → k < length (args_of c) → (slice_index_or (args_of c) k d).id.now ≡ (slice_index_or rules k (rule_of d)).id
  id_at k d lt = ap (λ (r : Rule). r.id) (at k d lt)

  threads_at : Arg → HasNumberUpTo 16 (found_of m) (codes "threads")
  threads_at d =
      let lt : 3 < length (args_of c) = omega (arith, ten) in
      let id : (slice_index_or (args_of c) 3 d).id.now ≡ codes "threads" = id_at 3 d lt in
      let got = ranged c m p simple names 3 d lt _ (at 3 d lt) refl refl (λ e. absurd cc) 1 16 refl
      (λ j e low same. only_threads j (rule_of e) (omega (arith, ten)) (rw (id, id_at j e low) at same))
      (λ e. let bad : codes "threads" ≡ [] = sym id ∙ e in absurd cc)
      (not_auto _ 116 (rw id refl) (λ e. omega arith) (λ e. omega arith)) in
      number 16 (found_of m) (codes "threads") (rw id at got)

  workers_at : Arg → HasNumberUpTo 16 (found_of m) (codes "workers")
  workers_at d =
      let lt : 4 < length (args_of c) = omega (arith, ten) in
      let id : (slice_index_or (args_of c) 4 d).id.now ≡ codes "workers" = id_at 4 d lt in
      let got = ranged c m p simple names 4 d lt _ (at 4 d lt) refl refl (λ e. absurd cc) 1 16 refl
      (λ j e low same. only_workers j (rule_of e) (omega (arith, ten)) (rw (id, id_at j e low) at same))
      (λ e. let bad : codes "workers" ≡ [] = sym id ∙ e in absurd cc)
      (not_auto _ 119 (rw id refl) (λ e. omega arith) (λ e. omega arith)) in
      number 16 (found_of m) (codes "workers") (rw id at got)

  connections_at : Arg → HasNumberIfGiven 50000 (found_of m) (codes "connections")
  connections_at d =
      let lt : 5 < length (args_of c) = omega (arith, ten) in
      let id : (slice_index_or (args_of c) 5 d).id.now ≡ codes "connections" = id_at 5 d lt in
      let got = ranged_if_given c m p simple names 5 d lt _ (at 5 d lt) refl refl 1 50000 refl
      (λ j e low same. only_connections j (rule_of e) (omega (arith, ten)) (rw (id, id_at j e low) at same))
      (λ e. let bad : codes "connections" ≡ [] = sym id ∙ e in absurd cc)
      (not_auto _ 99 (rw id refl) (λ e. omega arith) (λ e. omega arith)) in
      number_if_given 50000 (found_of m) (codes "connections") (rw id at got)

  requests_at : Arg → HasNumberUpTo 4294967296 (found_of m) (codes "requests")
  requests_at d =
      let lt : 6 < length (args_of c) = omega (arith, ten) in
      let id : (slice_index_or (args_of c) 6 d).id.now ≡ codes "requests" = id_at 6 d lt in
      let got = ranged c m p simple names 6 d lt _ (at 6 d lt) refl refl (λ e. absurd cc) 1 4294967296 refl
      (λ j e low same. only_requests j (rule_of e) (omega (arith, ten)) (rw (id, id_at j e low) at same))
      (λ e. let bad : codes "requests" ≡ [] = sym id ∙ e in absurd cc)
      (not_auto _ 114 (rw id refl) (λ e. omega arith) (λ e. omega arith)) in
      number 4294967296 (found_of m) (codes "requests") (rw id at got)

  idle_at : Arg → HasNumberUpTo 86400 (found_of m) (codes "idle")
  idle_at d =
      let lt : 7 < length (args_of c) = omega (arith, ten) in
      let id : (slice_index_or (args_of c) 7 d).id.now ≡ codes "idle" = id_at 7 d lt in
      let got = ranged c m p simple names 7 d lt _ (at 7 d lt) refl refl (λ e. absurd cc) 1 86400 refl
      (λ j e low same. only_idle j (rule_of e) (omega (arith, ten)) (rw (id, id_at j e low) at same))
      (λ e. let bad : codes "idle" ≡ [] = sym id ∙ e in absurd cc)
      (not_auto _ 105 (rw id refl) (λ e. omega arith) (λ e. omega arith)) in
      number 86400 (found_of m) (codes "idle") (rw id at got)

  some_arg : Arg
  some_arg = go (args_of c) ten where
    go : (xs : List Arg) → length xs ≡ 10 → Arg
    go [] e = absurd cc
    go (x ∷ xs) e = x

  pub parsed : (words : List Text) → (is_simple_and_free (app_of c) ≡ true → fault_of (app_of c) words ≡ []) → HasMatchesOf (app_of c) words m
      → IsParse words (found_of m)
  parsed words accepted matches = record {
    accepted = ap (λ (a : App). fault_of a words) (sym is) ∙ accepted (ap is_simple_and_free is);
    rows = (matches (ap is_simple is)).0 ∙ ap (λ (a : App). matches_of a words) is;
    numbers = record {
      threads = threads_at some_arg;
      workers = workers_at some_arg;
      connections = connections_at some_arg;
      requests = requests_at some_arg;
      idle = idle_at some_arg;
    };
  }

-- another kind than these two is a refusal
refused_kind : (k : ErrorKind) → (k ≡ kinds.DisplayHelp → ⊥) → (k ≡ kinds.DisplayVersion → ⊥) → by_kind k ≡ Refused
refused_kind kinds.InvalidValue help version = refl
refused_kind kinds.UnknownArgument help version = refl
refused_kind kinds.InvalidSubcommand help version = refl
refused_kind kinds.NoEquals help version = refl
refused_kind kinds.ValueValidation help version = refl
refused_kind kinds.TooManyValues help version = refl
refused_kind kinds.TooFewValues help version = refl
refused_kind kinds.WrongNumberOfValues help version = refl
refused_kind kinds.ArgumentConflict help version = refl
refused_kind kinds.MissingRequiredArgument help version = refl
refused_kind kinds.MissingSubcommand help version = refl
refused_kind kinds.DisplayHelp help version = absurd (help refl)
refused_kind kinds.DisplayHelpOnMissingArgumentOrSubcommand help version = refl
refused_kind kinds.DisplayVersion help version = absurd (version refl)
refused_kind kinds.Io help version = refl
refused_kind kinds.Format help version = refl
refused_kind kinds.OutOfMemory help version = refl

-- of one kind at most the first is the one that is among them
first_kind : (k : ErrorKind) (ks : Kinds) → One ks → IsAmong k ks → (said : Result Said Text) → asked_by ks said ≡ by_kind k
first_kind k [] one among said = absurd among
first_kind k (x ∷ []) one (inl same) said = ap by_kind (sym same)
first_kind k (x ∷ []) one (inr none) said = absurd none
first_kind k (x ∷ y ∷ rest) one among said = absurd one

-- what is asked where `clap` gives no matches
read_by_kind : (r : Result Asked WordsFault) (k : ErrorKind) (ks : Kinds) → One ks → (k ≡ kinds.OutOfMemory) ⊎ IsAmong k ks → IsAskedBy r k
    → (said : Result Said Text) → IsRead r (asked_by ks said)
read_by_kind (Ok (asked.Run w)) k ks one has by said = absurd by
read_by_kind (Ok (asked.Help text)) k ks one (inl memory) by said = let bad : kinds.OutOfMemory ≡ kinds.DisplayHelp = sym memory ∙ by in absurd cc
read_by_kind (Ok (asked.Help text)) k ks one (inr among) by said = first_kind k ks one among said ∙ ap by_kind by
read_by_kind (Ok (asked.Version text)) k ks one (inl memory) by said = let bad : kinds.OutOfMemory ≡ kinds.DisplayVersion = sym memory ∙ by in absurd cc
read_by_kind (Ok (asked.Version text)) k ks one (inr among) by said = first_kind k ks one among said ∙ ap by_kind by
read_by_kind (Err (faults.Usage why)) k ks one (inl memory) by said = absurd (by.2 memory)
read_by_kind (Err (faults.Usage why)) k ks one (inr among) by said = inl (first_kind k ks one among said ∙ refused_kind k by.0 by.1)
read_by_kind (Err (faults.Memory _)) k ks one has by said = tt

pub read_error : (a : App) (words : List Text) (e : Error) (r : Result Asked WordsFault) → a ≡ program → (is_simple_and_free a ≡ true → HasKind (fault_of a words) e)
    → IsAskedBy r (kind_of e) → IsRead r (asked_of words)
unfolding asked_of
read_error a words e r is fails by =
    read_by_kind r (kind_of e) (fault_of program words) (one_kind words)
    (subst (λ (x : App). (kind_of e ≡ kinds.OutOfMemory) ⊎ IsAmong (kind_of e) (fault_of x words)) is (fails (ap is_simple_and_free is))) by (said_of (matches_of program words))

-- what is asked where `clap` takes the words is what their matches say
meaning : (words : List Text) (f : Found) → IsParse words f → asked_of words ≡ by_said (said_of (rows_of f))
unfolding asked_of
meaning words f p = ap (λ ks. asked_by ks (said_of (matches_of program words))) p.accepted ∙ ap (λ rows. by_said (said_of rows)) (sym p.rows)

pub read_run : (words : List Text) (f : Found) (w : Words) → IsParse words f → IsRunBy (Ok w) (said_of (rows_of f)) → IsRead (Ok (asked.Run w)) (asked_of words)
read_run words f w p by = meaning words f p ∙ ap by_said by

pub read_fault : (words : List Text) (f : Found) (e : WordsFault) → IsParse words f → IsRunBy (Err e) (said_of (rows_of f)) → IsRead (Err e) (asked_of words)
read_fault words f (faults.Usage why) p by = inr (meaning words f p ∙ ap by_said by)
read_fault words f (faults.Memory _) p by = tt
