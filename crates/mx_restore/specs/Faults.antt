-- When a fault comes.
use Rattle.std.specs.Prelude.{◌≡◌, ℕ, Option}
use Rattle.mx_log.specs.Logs.{Logged}
use Rattle.mx_outside.specs.Causes.{Rose}
use Rattle.mx_restore.specs.declared.wrong.RestoreFault.{RestoreFault}
use Rattle.mx_restore.specs.declared.wrong.RestoreFault.TheVariants.{Busy, Failed, Line, Memory}

-- `Busy` and `Failed` come only where a count of faults rose
abbrev pub HasCause : RestoreFault → ℕ → ℕ → Type 0
HasCause Failed before after = Rose before after
HasCause Busy before after = Rose before after
HasCause (Line number wrong) before after = Unit {0}
HasCause (Memory refused) before after = Unit {0}

-- where a line is wrong the log stays as it was
abbrev pub StaysAt : RestoreFault → Option Logged → Option Logged → Type 0
StaysAt Failed old new = Unit {0}
StaysAt Busy old new = Unit {0}
StaysAt (Line number wrong) old new = new ≡ old
StaysAt (Memory refused) old new = Unit {0}

-- a fault of the lines alone
abbrev pub IsOfLines : RestoreFault → Type 0
IsOfLines Failed = ⊥
IsOfLines Busy = ⊥
IsOfLines (Line number wrong) = Unit {0}
IsOfLines (Memory refused) = Unit {0}

-- a fault of the log alone
abbrev pub IsOfLog : RestoreFault → Type 0
IsOfLog Failed = Unit {0}
IsOfLog Busy = ⊥
IsOfLog (Line number wrong) = ⊥
IsOfLog (Memory refused) = Unit {0}

-- a log isn't opened
abbrev pub IsOfOpening : RestoreFault → Type 0
IsOfOpening Failed = Unit {0}
IsOfOpening Busy = Unit {0}
IsOfOpening (Line number wrong) = ⊥
IsOfOpening (Memory refused) = ⊥
