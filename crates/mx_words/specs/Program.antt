-- The command that `clap` reads the words by.
use Rattle.std.specs.Prelude.{ℤ, Bool, pos, true, false, Some, [], ◌∷◌, ◌++◌, List, codes}
use Rattle.clap.specs.Words.{App, Rule, Text, new_app, new_rule}
use Rattle.clap.specs.declared.builder.action.ArgAction.TheVariants.{Set, SetTrue}
use Rattle.clap.specs.declared.builder.value_parser.ValueParser.TheVariants as parsers

-- no name of the program stands before its words, and it has a version
abbrev pub bare : App
bare = let a = new_app (codes "mxsync") in
    record a { top = record a.top { no_binary_name = true; has_version = true } }

-- an option `--NAME VALUE`
abbrev pub text_rule : Text → Bool → Rule
text_rule name is_required = record (new_rule name) { long = Some name; action = Some Set; required = is_required; value_names = 1 }

-- an option `--NAME N` with a number of 1 to `most`, and what it is where it isn't given
abbrev pub number_rule : Text → ℤ → Text → Rule
number_rule name most otherwise = record (new_rule name) {
  long = Some name;
  action = Some Set;
  parser = Some (parsers.Signed (pos 1) most);
  defaults = otherwise ∷ [];
  value_names = 1;
}

-- an option `--NAME N` with a number of 1 to `most`, and none where it isn't given
abbrev pub free_number_rule : Text → ℤ → Rule
free_number_rule name most = record (new_rule name) {
  long = Some name;
  action = Some Set;
  parser = Some (parsers.Signed (pos 1) most);
  value_names = 1;
}

-- a flag `--NAME`
abbrev pub flag_rule : Text → Rule
flag_rule name = record (new_rule name) { long = Some name; action = Some SetTrue }

-- the options that say how the program serves
abbrev pub mode_rules : List Rule
mode_rules = text_rule (codes "users") true ∷ text_rule (codes "mode") true ∷ text_rule (codes "listen") false ∷ []

-- the options of numbers
abbrev pub bound_rules : List Rule
bound_rules = number_rule (codes "threads") (pos 16) (codes "1")
    ∷ number_rule (codes "workers") (pos 16) (codes "1")
    ∷ free_number_rule (codes "connections") (pos 50000)
    ∷ number_rule (codes "requests") (pos 4294967296) (codes "1000")
    ∷ number_rule (codes "idle") (pos 86400) (codes "60") ∷ []

-- the options of the program
abbrev pub rules : List Rule
rules = mode_rules ++ bound_rules ++ flag_rule (codes "until-eof") ∷ text_rule (codes "journal") false ∷ []

-- the command with these options
abbrev pub with_options : List Rule → App
with_options options = record bare { top = record bare.top { rules = options } }

abbrev pub program : App
program = with_options rules
