-- How the exchanges of a connection grow, call by call.
use Rattle.std.specs.Prelude.{◌≡◌, ℕ, List, [], ◌∷◌, ◌++◌, length}
use Rattle.mx_fold.specs.Lists.{Histories, Counts, Grows, counts_of}
use Rattle.mx_fold.specs.Servers.{Server}
use Rattle.mx_fold.specs.Replies.{Ask}
use Rattle.mx_fold.specs.Exchanges.{Mark, exchange_at, exchanges, MarksRise}

-- A pass that has seen more has the same exchanges at the same marks, and its marks still rise.
abbrev pub ExchangesStay : Type 0 → Type 0 → Type 0
ExchangesStay V D = (w : Server V D) (old new : Histories) → Grows old new → (low : Counts) (asked : List (ℕ × Ask)) (marks : List Mark)
    → MarksRise low marks (counts_of old)
    → (exchanges w new asked marks ≡ exchanges w old asked marks) × MarksRise low marks (counts_of new)

-- One call more, at a mark that counts what the pass has seen, is one exchange more.
abbrev pub ExchangesGoOn : Type 0 → Type 0 → Type 0
ExchangesGoOn V D = (w : Server V D) (h : Histories) (low : Counts) (asked : List (ℕ × Ask)) (marks : List Mark) (a : ℕ × Ask)
    (mark : Mark)
    → length marks ≡ length asked → MarksRise low marks (counts_of h) → mark.stores ≡ counts_of h
    → (exchanges w h (asked ++ a ∷ []) (marks ++ mark ∷ []) ≡ exchanges w h asked marks ++ exchange_at w h a mark ∷ [])
    × MarksRise low (marks ++ mark ∷ []) (counts_of h)
