-- A number behind a mark, as `s12` or `_3`.
use Rattle.std.specs.Prelude.{ℕ, ◌==◌, if◌then◌else◌, List, [], ◌∷◌, Option, Some, None}
use Rattle.std.specs.Borrow.{Bor}
use Rattle.mx_ids.specs.Decimal.{number_at}

-- the number behind the mark at the front, at most `most`, and what follows it
unfoldable pub marked_at : ℕ → ℕ → List ℕ → Option (ℕ × List ℕ)
marked_at most mark [] = None
marked_at most mark (c ∷ cs) = if c == mark then number_at most cs else None

-- what a reader found: the number, and the bytes that follow
abbrev pub found_at : Option (ℕ × Bor (List ℕ)) → Option (ℕ × List ℕ)
found_at None = None
found_at (Some p) = Some (p.0, p.1.now)
