-- The senders of events, as a set.
use Rattle.std.proofs.Common.{◌≡◌, ℕ, Bool, true, false, cond, ◌||◌, List, is_eq, nat_cmp, refl, ap, sym, ◌∙◌}
use Rattle.std.specs.Cmp.Lexicographic.{slice_cmp, texts_ties}
use Rattle.std.specs.Str.{bytes_eq}

or_cond : (b o : Bool) → cond b true o ≡ (b || o)
or_cond true o = refl
or_cond false o = refl

pub sender_more : (sender t : List ℕ) (new old : Bool) → new ≡ cond (is_eq (slice_cmp nat_cmp sender t)) true old → new ≡ (bytes_eq sender t || old)
sender_more sender t new old is = is ∙ ap (λ b. cond b true old) (sym (texts_ties sender t)) ∙ or_cond (bytes_eq sender t) old
