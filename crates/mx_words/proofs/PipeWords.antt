-- Words that are written out.
use Rattle.std.proofs.Common.{◌≡◌, false, List, [], ◌∷◌, None, codes, refl}
use Rattle.std.specs.Str.{bytes_eq}
use Rattle.std.specs.Str.Parse.{starts_with_minus}
use Rattle.clap.specs.Lexer.{long_of, short_of}
use Rattle.clap.specs.Walk.{Text}
use Rattle.clap.proofs.OnLiterals.{clap_on_literals}
use Rattle.mx_words.specs.Words.{Help, Says, Version, asked_of, pipe_said, pipe_words}

pub no_dashes : (file : Text) → starts_with_minus file ≡ false → bytes_eq file (45 ∷ 45 ∷ []) ≡ false
no_dashes [] bare = refl
no_dashes (x ∷ xs) bare = rw bare refl

pub no_long : (file : Text) → starts_with_minus file ≡ false → long_of file ≡ None
no_long [] bare = refl
no_long (x ∷ xs) bare = rw bare refl

pub no_short : (file : Text) → starts_with_minus file ≡ false → short_of file ≡ None
no_short [] bare = refl
no_short (x ∷ xs) bare = rw bare refl

pub pipe_words_read : (file : Text) → starts_with_minus file ≡ false → asked_of (pipe_words file) ≡ Says (pipe_said file)
unfolding asked_of clap_on_literals
pipe_words_read file bare = rw (no_dashes file bare, no_long file bare, no_short file bare) refl

pub help_first : (rest : List Text) → asked_of (codes "--help" ∷ rest) ≡ Help
unfolding asked_of clap_on_literals
help_first rest = refl

pub version_first : (rest : List Text) → asked_of (codes "--version" ∷ rest) ≡ Version
unfolding asked_of clap_on_literals
version_first rest = refl
