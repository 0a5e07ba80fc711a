-- The program's command has no subcommands, and so `clap` finds faults of one kind at most in its words.
use Rattle.std.proofs.Common.{◌≡◌, ◌+◌, ◌==◌, ℕ, zero, suc, Bool, true, false, List, [], ◌∷◌, Option, Some, None, length, min, is_some, refl, sym, subst}
use Rattle.std.specs.Prelude.{⊤, ◌&&◌, ◌||◌, not, if◌then◌else◌, nat_lt, slice_get, encode_utf8, drop}
use Rattle.std.specs.Option.{option_map_or}
use Rattle.std.specs.Str.{bytes_eq, chars}
use Rattle.clap.specs.Facts.{parser_of_value, unwrap_or_range}
use Rattle.clap.specs.Faults.{action_fault, bundle_fault, bundle_step_fault, count_fault, default_fault, defaults_fault, fault_of, flag_word_fault, flags_fault, level_fault, long_fault, option_fault, other_fault, positional_fault, react_fault, repeat_fault, settle_fault, short_fault, step_fault, stray_fault, turn_fault, use_fault, values_fault, walk_fault, word_fault}
use Rattle.clap.specs.Kinds.{Kinds, check_kinds, or_else, range_kinds, request_kinds, value_kinds, values_kinds}
use Rattle.clap.specs.Lexer.{long_of, short_of}
use Rattle.clap.specs.Matches.{count_text}
use Rattle.clap.specs.Simple.{Shape, built}
use Rattle.clap.specs.Walk.{Held, Row, Rule, Step, Text, Waiting, Walk, action_of, arg_by_id, arg_by_index, arg_by_long, arg_by_short, attached_value, count_of, has_row, idle, is_empty, is_pending, most_values, next, nothing_held, option, positional, reacted, settled, subcommand, subcommand_met, takes_several, takes_values, trailing, value, values_or_missing, walk, walk_from, walked, with_default, word_met}
use Rattle.clap.specs.declared.builder.action.ArgAction.{ArgAction}
use Rattle.clap.specs.declared.builder.action.ArgAction.TheVariants as actions
use Rattle.clap.specs.declared.builder.value_parser.ValueParser.{ValueParser}
use Rattle.clap.specs.declared.error.kind.ErrorKind.{ErrorKind}
use Rattle.clap.specs.declared.error.kind.ErrorKind.TheVariants.{ArgumentConflict}
use Rattle.clap.proofs.FaultLemmas.{leaf_fault}
use Rattle.mx_words.specs.Program.{program}

-- there is one at most
abbrev pub One : Kinds → Type 0
One [] = ⊤
One (k ∷ []) = ⊤
One (k ∷ x ∷ rest) = ⊥

either : (a b : Kinds) → One a → One b → One (or_else a b)
either [] b here there = there
either (k ∷ ks) b here there = here

under : (t : Bool) (a b : Kinds) → One a → One b → One (if t then a else b)
under true a b here there = here
under false a b here there = there

unless : (t : Bool) (k : ErrorKind) → One (if t then [] else k ∷ [])
unless t k = under t [] (k ∷ []) tt tt

value_one : (i : Bool) (p : ValueParser) (text : Text) → One (value_kinds i p text)
value_one i p text = unless _ _

values_one : (i : Bool) (p : ValueParser) (vs : List Text) → One (values_kinds i p vs)
values_one i p [] = tt
values_one i p (v ∷ vs) = either (value_kinds i p v) (values_kinds i p vs) (value_one i p v) (values_one i p vs)

range_one : (least most n : ℕ) → One (range_kinds least most n)
range_one least most n =
    under (nat_lt 0 least && n == 0) _ _ tt (under (least == most) _ _ (unless (least == n) _) (under (nat_lt n least) _ _ tt (under (nat_lt most n) _ _ tt tt)))

count_one : (a : Rule) (vs : List Text) (rows : List Row) → One (count_fault a vs rows)
count_one a [] rows = value_one a.ignore_case (parser_of_value a.parser) (count_text (min (count_of a.id rows + 1) 255))
count_one a (v ∷ vs) rows = values_one a.ignore_case (parser_of_value a.parser) (v ∷ vs)

repeat_one : (again : Bool) (id : Text) (rows : List Row) → One (repeat_fault again id rows)
repeat_one again id rows = under (has_row id rows && not again) (ArgumentConflict ∷ []) [] tt tt

set_one : (again : Bool) (a : Rule) (vs : List Text) (rows : List Row) → One (or_else (repeat_fault again a.id rows) (values_fault a vs))
set_one again a vs rows = either (repeat_fault again a.id rows) (values_fault a vs) (repeat_one again a.id rows) (values_one a.ignore_case (parser_of_value a.parser) vs)

action_one : (x : ArgAction) (again : Bool) (a : Rule) (vs : List Text) (rows : List Row) → One (action_fault x again a vs rows)
action_one actions.Set again a vs rows = set_one again a vs rows
action_one actions.SetTrue again a vs rows = set_one again a vs rows
action_one actions.SetFalse again a vs rows = set_one again a vs rows
action_one actions.Append again a vs rows = values_one a.ignore_case (parser_of_value a.parser) vs
action_one actions.Count again a vs rows = count_one a vs rows
action_one actions.Help again a vs rows = tt
action_one actions.HelpShort again a vs rows = tt
action_one actions.HelpLong again a vs rows = tt
action_one actions.Version again a vs rows = tt

request_one : (x : ArgAction) → One (request_kinds x)
request_one actions.Set = tt
request_one actions.SetTrue = tt
request_one actions.SetFalse = tt
request_one actions.Append = tt
request_one actions.Count = tt
request_one actions.Help = tt
request_one actions.HelpShort = tt
request_one actions.HelpLong = tt
request_one actions.Version = tt

use_one : (again : Bool) (a : Rule) (vs : List Text) (rows : List Row) → One (use_fault again a vs rows)
use_one again a vs rows = either (range_kinds (unwrap_or_range a.range).start_inclusive (most_values a) (length vs)) _
    (range_one (unwrap_or_range a.range).start_inclusive (most_values a) (length vs)) (action_one (action_of a) again a (values_or_missing a vs) rows)

settle_one : (c : List Rule) (again : Bool) (h : Held) → One (settle_fault c again h)
settle_one c again h = go h.pending
  where
    used : (p : Text × List Text) (found : Option Rule) → One (option_map_or (λ a. use_fault again a p.1 h.rows) found [])
    used p None = tt
    used p (Some a) = use_one again a p.1 h.rows

    go : (pending : Option (Text × List Text)) → One (option_map_or (λ p. option_map_or (λ a. use_fault again a p.1 h.rows) (arg_by_id c p.0) []) pending [])
    go None = tt
    go (Some p) = used p (arg_by_id c p.0)

react_one : (c : List Rule) (again : Bool) (a : Rule) (vs : List Text) (h : Held) → One (react_fault c again a vs h)
react_one c again a vs h = either (settle_fault c again h) _ (settle_one c again h) (use_one again a vs (settled c h).rows)

option_one : (c : List Rule) (again : Bool) (a : Rule) (v : Option Text) (h : Held) → One (option_fault c again a v h)
option_one c again a (Some v) h = react_one c again a (v ∷ []) h
option_one c again a None h = settle_one c again h

long_one : (c : List Rule) (again : Bool) (found : Option Rule) (v : Option Text) (h : Held) → One (long_fault c again found v h)
long_one c again None v h = tt
long_one c again (Some a) v h = under (takes_values a) _ _ (option_one c again a v h) (under (is_some v) _ _ tt (react_one c again a [] h))

short_one : (c : List Rule) (again : Bool) (found : Option Rule) (rest : Text) (h : Held) (then_at : Held → Kinds) → ((g : Held) → One (then_at g)) → One (short_fault c again found rest h then_at)
short_one c again None rest h then_at one = tt
short_one c again (Some a) rest h then_at one = under (takes_values a) _ _ (option_one c again a (attached_value rest) h)
    (either (react_fault c again a [] h) (then_at (reacted c a [] h)) (react_one c again a [] h) (one (reacted c a [] h)))

step_of_one : (c : List Rule) (again : Bool) (x : Option ℕ) (flags : Text) (skip : ℕ) (h : Held) (then_at : Text → ℕ → Held → Kinds) → ((f : Text) (n : ℕ) (g : Held) → One (then_at f n g))
    → One (bundle_step_fault c again x flags skip h then_at)
step_of_one c again None flags skip h then_at one = tt
step_of_one c again (Some x) flags zero h then_at one = let rest = drop (length (encode_utf8 x)) flags in
    short_one c again (arg_by_short c x) rest h (then_at rest 0) (one rest 0)
step_of_one c again (Some x) flags (suc skip) h then_at one = one (drop (length (encode_utf8 x)) flags) skip h

flags_one : (c : List Rule) (again : Bool) (k : ℕ) (flags : Text) (skip : ℕ) (h : Held) → One (flags_fault c again k flags skip h)
unfolding flags_fault
flags_one c again zero flags skip h = tt
flags_one c again (suc k) flags skip h = step_of_one c again (slice_get (chars flags) 0) flags skip h (flags_fault c again k) (flags_one c again k)

flag_word_one : (c : List Rule) (again : Bool) (long : Option (Text × Option Text)) (word : Text) (h : Held) → One (flag_word_fault c again long word h)
flag_word_one c again (Some p) word h = long_one c again (arg_by_long c p.0) p.1 h
flag_word_one c again None word h = go (short_of word)
  where
    go : (flags : Option Text) → One (option_map_or (λ f. bundle_fault c again f h) flags [])
    go None = tt
    go (Some f) = flags_one c again (length f) f h.skip (record h { skip = 0 })

none_met : (waiting : Waiting) (word : Text) → subcommand_met [] waiting word ≡ None
none_met idle word = refl
none_met (option id) word = refl
none_met positional word = refl

word_one : (s : Shape) (t : Bool) (waiting : Waiting) (word : Text) (h : Held) → One (word_fault s [] t waiting word h)
word_one s t waiting word h = under t [] _ tt (subst (λ met. One (other_fault s met word h)) (sym (none_met waiting word)) here)
  where
    here : One (other_fault s None word h)
    here = under (bytes_eq word (45 ∷ 45 ∷ [])) [] _ tt (flag_word_one s.rules s.args_override_self (long_of word) word h)

step_one : (s : Shape) → s.is_leaf ≡ true → (position : ℕ) (h : Held) (step : Step) → One (step_fault s position h step)
step_one s leaf position h (next waiting) = tt
step_one s leaf position h (trailing p) = tt
step_one s leaf position h (subcommand name) = tt
step_one s leaf position h value = go (arg_by_index s.rules position)
  where
    go : (found : Option Rule) → One (option_map_or (λ a. positional_fault s.rules s.args_override_self a h) found (stray_fault s))
    go None = subst (λ l. One (stray_fault (record s { is_leaf = l }))) (sym leaf) tt
    go (Some a) = under (is_pending a h.pending && takes_several a) [] _ tt (settle_one s.rules s.args_override_self h)

turn_one : (s : Shape) → s.is_leaf ≡ true → (w : Walk) (word : Text) → One (turn_fault s [] w word)
turn_one s leaf w word =
    let met = word_met s.rules [] w.is_trailing w.waiting w.position word w.held in
    under (is_some w.stopped) [] _ tt (either (word_fault s [] w.is_trailing w.waiting word w.held) (step_fault s w.position met.0 met.1)
    (word_one s w.is_trailing w.waiting word w.held) (step_one s leaf w.position met.0 met.1))

walk_one : (s : Shape) → s.is_leaf ≡ true → (w : Walk) (words : List Text) → One (walk_fault s [] w words)
unfolding walk_fault
walk_one s leaf w [] = tt
walk_one s leaf w (word ∷ rest) = either (turn_fault s [] w word) _ (turn_one s leaf w word) (walk_one s leaf (walked s.rules [] w word) rest)

default_one : (rows : List Row) (a : Rule) → One (default_fault rows a)
default_one rows a = under (has_row a.id rows || is_empty a.defaults) [] _ tt (either (request_kinds (action_of a)) _ (request_one (action_of a)) (values_one a.ignore_case (parser_of_value a.parser) a.defaults))

defaults_one : (rows : List Row) (rs : List Rule) → One (defaults_fault rows rs)
unfolding defaults_fault
defaults_one rows [] = tt
defaults_one rows (a ∷ rest) = either (default_fault rows a) _ (default_one rows a) (defaults_one (with_default rows a) rest)

check_one : (a b c : Bool) → One (check_kinds a b c)
check_one a b c = under a _ _ tt (under b _ _ tt (under c _ _ tt tt))

level_one : (s : Shape) → s.is_leaf ≡ true → (words : List Text) → One (level_fault s [] nothing_held words false [])
level_one s leaf words =
    let end = (walk s.rules [] nothing_held words).held in
    either (walk_fault s [] (walk_from nothing_held) words) _ (walk_one s leaf (walk_from nothing_held) words)
    (either (settle_fault s.rules s.args_override_self end) _ (settle_one s.rules s.args_override_self end)
    (either (defaults_fault (settled s.rules end).rows s.rules) _ (defaults_one (settled s.rules end).rows s.rules)
    (check_one _ _ _)))

pub one_kind : (words : List Text) → One (fault_of program words)
one_kind words = subst One (sym (leaf_fault (built program) nothing_held words refl)) (level_one (built program).top refl words)
