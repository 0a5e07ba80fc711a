-- One step of a machine, what it answers, and why it is refused.
use Rattle.std.specs.Prelude.{◌≡◌, ◌≢◌, ◌+◌, ◌<◌, ◌≤◌, None, Some, length}
use Rattle.mx_core.specs.declared.machine.Block.{Block}
use Rattle.mx_core.specs.declared.machine.Step.{Step}
use Rattle.mx_core.specs.declared.machine.Step.TheVariants.{Draw, Store}
use Rattle.mx_core.specs.declared.machine.Moved.{Moved}
use Rattle.mx_core.specs.declared.machine.Moved.TheVariants.{Drawn, Stored}
use Rattle.mx_core.specs.declared.machine.StepFault.{StepFault}
use Rattle.mx_core.specs.declared.machine.StepFault.TheVariants.{AlreadyDrawn, NothingDrawn, WrongCount, AtLimit, Memory}
use Rattle.mx_core.specs.Front.{IsFront}
use Rattle.mx_core.specs.State.{State, block_of, drawn, stored}

-- the writer of a step is one of the machine's, and a draw asks for at least one position
abbrev pub IsStep : {I : Type 0} → State I → Step I → Type 0
IsStep s (Draw writer count) = (writer < length s.held) × (0 < count)
IsStep s (Store writer items) = writer < length s.held

-- a step leads from one state to another: a draw by a writer that holds nothing, below the limit, or a store by a writer that holds a
-- block of as many positions
abbrev pub Takes : {I : Type 0} → State I → Step I → State I → Type 0
Takes old (Draw writer count) new =
    IsStep old (Draw writer count) × (block_of old writer ≡ None) × (old.next + count < old.limit) × (new ≡ drawn old writer count)
Takes old (Store writer items) new =
    IsStep old (Store writer items)
    × ((b : Block) × (block_of old writer ≡ Some b) × (b.count ≡ length items) × (new ≡ stored old writer b.first items))

-- a step that was taken, with its answer
abbrev pub Moves : {I : Type 0} → State I → Step I → Moved → State I → Type 0
Moves old (Draw writer count) (Drawn first n) new = Takes old (Draw writer count) new × (first ≡ old.next + 1) × (n ≡ count)
Moves old (Store writer items) (Stored front) new = Takes old (Store writer items) new × IsFront new.history front
Moves old (Draw writer count) (Stored front) new = ⊥
Moves old (Store writer items) (Drawn first n) new = ⊥

-- a step that was refused, with its cause
abbrev pub IsRefused : {I : Type 0} → State I → Step I → StepFault → Type 0
IsRefused s (Draw writer count) (AlreadyDrawn first) = (b : Block) × (block_of s writer ≡ Some b) × (first ≡ b.first)
IsRefused s (Draw writer count) (AtLimit next) = (block_of s writer ≡ None) × (s.limit ≤ s.next + count) × (next ≡ s.next)
IsRefused s (Store writer items) NothingDrawn = block_of s writer ≡ None
IsRefused s (Store writer items) (WrongCount drawn given) =
    (b : Block) × (block_of s writer ≡ Some b) × (b.count ≢ length items) × (drawn ≡ b.count) × (given ≡ length items)
IsRefused s (Store writer items) (Memory _) = (b : Block) × (block_of s writer ≡ Some b) × (b.count ≡ length items)
IsRefused s step fault = ⊥
