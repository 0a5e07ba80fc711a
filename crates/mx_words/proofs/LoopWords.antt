-- The words of a loop, of which two are variables: one step of the walk after the other, as a goal over all of them grows too large.
use Rattle.std.proofs.Common.{◌≡◌, ◌∙◌, false, List, [], ◌∷◌, Some, None, codes, is_some, refl, ap, ap₂}
use Rattle.std.specs.Prelude.{fold}
use Rattle.std.specs.Str.Parse.{starts_with_minus}
use Rattle.clap.specs.Faults.{check_fault, defaults_fault, entered_fault, settle_fault, turn_fault, walk_fault}
use Rattle.clap.specs.Kinds.{Kinds, or_else}
use Rattle.clap.specs.Simple.{Shape, built, entered, names_of}
use Rattle.clap.specs.Walk.{Held, Names, Rule, Text, Walk, arg_by_id, finished, nothing_held, option, option_word, settled, walk, walk_from, walked}
use Rattle.clap.proofs.OnLiterals.{clap_on_literals}
use Rattle.mx_words.specs.Program.{program}
use Rattle.mx_words.specs.Words.{Meaning, Says, asked_by, asked_of, loop_said, loop_words, said_of}
use Rattle.mx_words.proofs.PipeWords.{no_dashes, no_long, no_short}

-- an option waits for its value
abbrev waits : Held → Text → Walk
waits h id = record { held = h; waiting = option id; position = 1; is_trailing = false; stopped = None }

-- the walk after the value
abbrev after : List Rule → Held → Text → Text → Walk
after c h id v = record (waits h id) { held = (option_word (arg_by_id c id) id v h).0; waiting = (option_word (arg_by_id c id) id v h).1 }

value_met : (c : List Rule) (names : Names) (h : Held) (id v : Text) → starts_with_minus v ≡ false
    → walked c names (waits h id) v ≡ after c h id v
unfolding walked
value_met c names h id v bare = rw (no_dashes v bare, no_long v bare, no_short v bare) refl

value_taken : (s : Shape) (names : Names) (h : Held) (id v : Text) → starts_with_minus v ≡ false → turn_fault s names (waits h id) v ≡ []
value_taken s names h id v bare = rw (no_dashes v bare, no_long v bare, no_short v bare) refl

-- one word more without a fault
passed : (s : Shape) (names : Names) (w next : Walk) (word : Text) (rest : List Text)
    → turn_fault s names w word ≡ [] → walked s.rules names w word ≡ next
    → walk_fault s names w (word ∷ rest) ≡ walk_fault s names next rest
unfolding walk_fault
passed s names w next word rest taken is = rw (taken, is) refl

-- ---- the program's

abbrev top : Shape
top = (built program).top

abbrev names : Names
names = names_of (built program)

abbrev step : Walk → Text → Walk
step w word = walked top.rules names w word

abbrev users : Held
users = record { rows = []; pending = Some (codes "users", []); skip = 0 }

-- what is asked by where the walk ends and what it found wrong
abbrev by_end : Walk → Kinds → Meaning
by_end w found = asked_by (or_else found (or_else (entered_fault (built program) w.stopped)
    (or_else (settle_fault top.rules top.args_override_self w.held)
    (or_else (defaults_fault (settled top.rules w.held).rows top.rules)
    (check_fault top (finished top.rules w.held) (is_some (entered (built program) w.stopped)))))))
    (said_of (finished top.rules w.held))

module _ (file address : Text) (bare : starts_with_minus file ≡ false) (plain : starts_with_minus address ≡ false) where
  -- what is held after the name of the file, after `--mode`, after `loop`, after `--listen` and after the address
  abbrev named : Held
  named = (after top.rules users (codes "users") file).held

  abbrev mode : Held
  mode = record { rows = (settled top.rules named).rows; pending = Some (codes "mode", []); skip = 0 }

  abbrev loops : Held
  loops = record { rows = (settled top.rules named).rows; pending = Some (codes "mode", codes "loop" ∷ []); skip = 0 }

  abbrev listen : Held
  listen = record { rows = (settled top.rules loops).rows; pending = Some (codes "listen", []); skip = 0 }

  abbrev end : Walk
  end = after top.rules listen (codes "listen") address

  first : step (walk_from nothing_held) (codes "--users") ≡ waits users (codes "users")
  unfolding clap_on_literals
  first = refl

  second : step (waits users (codes "users")) file ≡ walk_from named
  second = value_met top.rules names users (codes "users") file bare

  third : step (walk_from named) (codes "--mode") ≡ waits mode (codes "mode")
  unfolding clap_on_literals
  third = refl

  fourth : step (waits mode (codes "mode")) (codes "loop") ≡ walk_from loops
  unfolding clap_on_literals
  fourth = refl

  fifth : step (walk_from loops) (codes "--listen") ≡ waits listen (codes "listen")
  unfolding clap_on_literals
  fifth = refl

  sixth : step (waits listen (codes "listen")) address ≡ end
  sixth = value_met top.rules names listen (codes "listen") address plain

  whole : walk top.rules names nothing_held (loop_words file address) ≡ end
  whole =
      ap (λ w. fold step w (file ∷ codes "--mode" ∷ codes "loop" ∷ codes "--listen" ∷ address ∷ [])) first
      ∙ ap (λ w. fold step w (codes "--mode" ∷ codes "loop" ∷ codes "--listen" ∷ address ∷ [])) second
      ∙ ap (λ w. fold step w (codes "loop" ∷ codes "--listen" ∷ address ∷ [])) third
      ∙ ap (λ w. fold step w (codes "--listen" ∷ address ∷ [])) fourth
      ∙ ap (λ w. fold step w (address ∷ [])) fifth
      ∙ sixth

  first_taken : turn_fault top names (walk_from nothing_held) (codes "--users") ≡ []
  unfolding clap_on_literals
  first_taken = refl

  third_taken : turn_fault top names (walk_from named) (codes "--mode") ≡ []
  unfolding clap_on_literals
  third_taken = refl

  fourth_taken : turn_fault top names (waits mode (codes "mode")) (codes "loop") ≡ []
  unfolding clap_on_literals
  fourth_taken = refl

  fifth_taken : turn_fault top names (walk_from loops) (codes "--listen") ≡ []
  unfolding clap_on_literals
  fifth_taken = refl

  none_met : (w : Walk) → walk_fault top names w [] ≡ []
  unfolding walk_fault
  none_met w = refl

  all_taken : walk_fault top names (walk_from nothing_held) (loop_words file address) ≡ []
  all_taken =
      passed top names _ _ (codes "--users") _ first_taken first
      ∙ passed top names _ _ file _ (value_taken top names users (codes "users") file bare) second
      ∙ passed top names _ _ (codes "--mode") _ third_taken third
      ∙ passed top names _ _ (codes "loop") _ fourth_taken fourth
      ∙ passed top names _ _ (codes "--listen") _ fifth_taken fifth
      ∙ passed top names _ _ address _ (value_taken top names listen (codes "listen") address plain) sixth
      ∙ none_met end

  asked : by_end end [] ≡ Says (loop_said file address)
  unfolding clap_on_literals
  asked = refl

  pub loop_words_read : asked_of (loop_words file address) ≡ Says (loop_said file address)
  unfolding asked_of
  loop_words_read = ap₂ by_end whole all_taken ∙ asked
