-- What a board is asked, move by move, and whom it hands out.
use Rattle.std.specs.Prelude.{ℕ, ◌<◌, List, [], ◌∷◌, ◌++◌}
use Rattle.std.specs.List.{Contains}
use Rattle.mx_wait.specs.declared.names.StreamName.{StreamName}
use Rattle.mx_wait.specs.declared.telling.Board.{Board}
use Rattle.mx_wait.specs.Parked.{after_telling, handed, parked, told_at, with_parked}

pub data Move (W : Type 0) : Type 0 where
  Parks : StreamName → W → Move W
  Tells : StreamName → ℕ → Move W

module _ {W : Type 0} where
  abbrev pub after : Board W → Move W → Board W
  after b (Parks s w) = record b { wakers = with_parked b.wakers s w }
  after b (Tells s front) = after_telling b s front

  abbrev pub hands : Board W → Move W → List W
  hands b (Parks s w) = []
  hands b (Tells s front) = handed b.wakers s (told_at b s) front

  -- all that are handed out
  abbrev pub all_handed : Board W → List (Move W) → List W
  all_handed b [] = []
  all_handed b (m ∷ ms) = hands b m ++ all_handed (after b m) ms

-- No wake is lost: who is parked at a stream is handed out by the time that a front is told which is greater than all that were told when it was parked, whatever
-- else was parked and told in between.
abbrev pub NoneIsLost : Type 0 → Type 0
NoneIsLost W = (b : Board W) (s : StreamName) (w : W) (ms : List (Move W)) (front : ℕ) → Contains (parked b.wakers s) w → told_at b s < front
    → Contains (all_handed b (ms ++ Tells s front ∷ [])) w
