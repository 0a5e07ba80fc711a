-- The numbers of what the words say lie in the bounds of their options.
use Rattle.std.proofs.Common.{◌≡◌, ◌∙◌, ◌≤◌, ◌<◌, ◌^◌, ℕ, Bool, true, false, List, Option, Some, None, nat_lt, refl, ap, sym, codes, arith}
use Rattle.std.specs.Prelude.{Result, Ok, Err}
use Rattle.std.proofs.lemmas.Bool.Decides.{nat_tests}
use Rattle.clap.specs.Words.{Row, Text, first_of, one_of, rows_of}
use Rattle.clap.specs.declared.parser.matches.Found.{Found}
use Rattle.clap.proofs.WalkLemmas.{first_value-rows, one_text-rows}
use Rattle.mx_words.specs.Matches.{HasNumber, HasNumberIfGiven, HasNumberUpTo, HasNumbers}
use Rattle.mx_words.specs.Words.{AreWithin, Loop, Pipe, Said, Serve, Way, connections_of, most_connections, number_in, number_of, said_by, said_for, said_of, said_on, said_with, usual_connections, way_by, way_of}
use Rattle.mx_words.specs.declared.words.Words.{Words}

-- ---- the number of an option

-- an option that is given has a number, which is that of its word
pub has_number : (most : ℕ) (f : Found) (id word : Text) → most < 2 ^ 64 → HasNumberIfGiven most f id → Some word ≡ first_of id (rows_of f)
    → HasNumber 64 f id
has_number most f id word small has given =
    let got = has word (first_value-rows f id ∙ sym given) in
    (word, got.0, got.1, omega (arith, small))

pub given_number : (most : ℕ) (f : Found) (id word : Text) → HasNumberIfGiven most f id → Some word ≡ first_of id (rows_of f)
    → number_in (one_of id (rows_of f)) ≡ number_of word
given_number most f id word has given = ap number_in (sym (one_text-rows f id) ∙ (has word (first_value-rows f id ∙ sym given)).0)

bounded : (most : ℕ) (f : Found) (id : Text) (n : ℕ) → HasNumberUpTo most f id → n ≡ number_in (one_of id (rows_of f)) → (1 ≤ n) × (n ≤ most)
bounded most f id n has e = rw (e ∙ ap number_in (sym (one_text-rows f id) ∙ has.1)) (has.3, has.4)

-- ---- the connections

not_above : (most n : ℕ) → nat_lt most n ≡ false → n ≤ most
not_above most n e = grind (arith, nat_tests)

usual_within : (way : Way) → (1 ≤ usual_connections way) × (usual_connections way ≤ most_connections way)
usual_within Pipe = (omega arith, omega arith)
usual_within (Serve address) = (omega arith, omega arith)
usual_within (Loop address) = (omega arith, omega arith)

given_within : (way : Way) (word : Text) (n : ℕ) → 1 ≤ number_of word → (t : Bool) → nat_lt (most_connections way) (number_of word) ≡ t
    → Ok n ≡ connections_of way (Some word) → (1 ≤ n) × (n ≤ most_connections way)
given_within way word n one true test e =
    let bad = rw test at e in
    absurd (cc (bad))
given_within way word n one false test e =
    let same = rw test at e in
    let is : n ≡ number_of word = cc (same) in
    rw is (one, not_above (most_connections way) (number_of word) test)

connections_within : (f : Found) (id : Text) (way : Way) (n : ℕ) (given : Option Text)
    → HasNumberIfGiven 50000 f id → first_of id (rows_of f) ≡ given → Ok n ≡ connections_of way given → (1 ≤ n) × (n ≤ most_connections way)
connections_within f id way n None has is e =
    let usual : n ≡ usual_connections way = cc (e) in
    rw usual (usual_within way)
connections_within f id way n (Some word) has is e =
    given_within way word n (has word (first_value-rows f id ∙ is)).2 (nat_lt (most_connections way) (number_of word)) refl e

-- ---- all numbers

-- what is said has the numbers of these rows
record Has (s : Said) (rows : List Row) : Type 0 where
  threads : s.threads ≡ number_in (one_of (codes "threads") rows)
  workers : s.workers ≡ number_in (one_of (codes "workers") rows)
  connections : Ok s.connections ≡ connections_of s.way (first_of (codes "connections") rows)
  requests : s.requests ≡ number_in (one_of (codes "requests") rows)
  idle : s.idle ≡ number_in (one_of (codes "idle") rows)

with_number : (rows : List Row) (users : Text) (way : Way) (n : Result ℕ Text) (s : Said)
    → n ≡ connections_of way (first_of (codes "connections") rows) → Ok s ≡ said_with rows users way n → Has s rows
with_number rows users way (Err why) s is e = absurd (cc (e))
with_number rows users way (Ok n) s is e =
    let same = ap (λ (r : Result Said Text). said_or s r) e in
    record {
      threads = ap (λ (x : Said). x.threads) same;
      workers = ap (λ (x : Said). x.workers) same;
      connections = ap (λ (x : Said). Ok x.connections) same ∙ is
          ∙ ap (λ (w : Way). connections_of w (first_of (codes "connections") rows)) (sym (ap (λ (x : Said). x.way) same));
      requests = ap (λ (x : Said). x.requests) same;
      idle = ap (λ (x : Said). x.idle) same;
    }
  where
    said_or : Said → Result Said Text → Said
    said_or d (Ok x) = x
    said_or d (Err why) = d

on_way : (rows : List Row) (users : Text) (way : Result Way Text) (s : Said) → Ok s ≡ said_on rows users way → Has s rows
on_way rows users (Err why) s e = absurd (cc (e))
on_way rows users (Ok way) s e = with_number rows users way (connections_of way (first_of (codes "connections") rows)) s refl e

for_words : (rows : List Row) (users word : Option Text) (s : Said) → Ok s ≡ said_for rows users word → Has s rows
for_words rows None word s e = absurd (cc (e))
for_words rows (Some users) None s e = absurd (cc (e))
for_words rows (Some users) (Some word) s e = on_way rows users (way_of word (first_of (codes "listen") rows)) s e

pub within : (f : Found) (w : Words) → HasNumbers f → Ok (said_by w) ≡ said_of (rows_of f) → AreWithin w
within f w has e =
    let n = for_words (rows_of f) (first_of (codes "users") (rows_of f)) (first_of (codes "mode") (rows_of f)) (said_by w) e in
    record {
      threads = bounded 16 f (codes "threads") w.threads has.threads n.threads;
      workers = bounded 16 f (codes "workers") w.workers has.workers n.workers;
      connections = connections_within f (codes "connections") (way_by w.mode) w.connections _ has.connections refl n.connections;
      requests = bounded 4294967296 f (codes "requests") w.requests has.requests n.requests;
      idle = bounded 86400 f (codes "idle") w.idle has.idle n.idle;
    }
