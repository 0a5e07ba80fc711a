-- A sink in memory keeps why it failed.
use Rattle.std.specs.Prelude.{◌≡◌, ℕ, ◌<◌, true, Option}
use Rattle.std.specs.Option.{is_some}
use Rattle.mx_ids.specs.declared.memory.Memory.{Memory}

abbrev pub KeepsRefusal : ℕ → Option Memory → Type 0
KeepsRefusal faults refused = 0 < faults → is_some refused ≡ true
