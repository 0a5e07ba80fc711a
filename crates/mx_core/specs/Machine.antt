-- What holds of each machine.
use Rattle.std.specs.Prelude.{◌≤◌, ◌^◌, length}
use Rattle.mx_core.specs.Limits.{most_writers}
use Rattle.mx_core.specs.Runs.{IsReached}
use Rattle.mx_core.specs.State.{State}

pub record IsMachine {I : Type 0} (s : State I) : Type 0 where
  pub reached : IsReached s
  pub limit : s.limit ≤ 2 ^ 48
  pub writers : length s.held ≤ most_writers
