-- One line.
use Rattle.std.proofs.Common.{◌≡◌, ℕ, List, [], ◌∷◌, ◌++◌, refl, subst, sym}
use Rattle.mx_journal.specs.Kept.{AreLines}

no_lines : AreLines [] []
no_lines = record { whole = refl; texts_open = tt; rest_open = refl }

-- the only line of an empty space is that of the text
pub only_line : (space lines text whole : List ℕ) → space ≡ [] → text ≡ whole
    → ((texts : List (List ℕ)) → AreLines space texts → AreLines lines (texts ++ text ∷ [])) → AreLines lines (whole ∷ [])
only_line space lines text whole fresh is added = subst (λ t. AreLines lines (t ∷ [])) is (added [] (subst (λ s. AreLines s []) (sym fresh) no_lines))
