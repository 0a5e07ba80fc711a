-- A queue of tickets for what one slot of a table has: the next ticket, the ticket that is served, the slot, and the seat of each ticket.
use Rattle.std.specs.Prelude.{◌≡◌, ◌≢◌, ℕ, ◌+◌, ◌==◌, ◌<◌, ◌≤◌, Option}
use mathlib.Core.Option as maybe
use prog.Atomic.{either}
use Rattle.atomic_table.specs.Table.{State, Me, Step, step, Allows}
use Rattle.mx_front.specs.declared.view.Turn.{Turn}
use Rattle.mx_front.specs.declared.view.Turn.TheVariants.{Idle, Waits, Has}

pub record Line (T : Type 0) : Type 0 where
  pub ticket : ℕ
  pub serving : ℕ
  pub slot : maybe.Option (Option T)
  pub ticket_of : ℕ → ℕ

abbrev pub IsHome : {A : Type 0} → maybe.Option A → Type 0
IsHome maybe.none = ⊥
IsHome (maybe.some x) = Unit {0}

-- a seat waits with a ticket: what the slot has is at home when it is served
pub record Waiting {T : Type 0} (l : Line T) (j t : ℕ) : Type 0 where
  pub from : l.serving ≤ t
  pub below : t < l.ticket
  pub mine : l.ticket_of t ≡ j
  pub home : t ≡ l.serving → IsHome l.slot

-- a seat has the turn, with what the slot has
pub record Having {T : Type 0} (l : Line T) (j t : ℕ) : Type 0 where
  pub turn : t ≡ l.serving
  pub below : t < l.ticket
  pub mine : l.ticket_of t ≡ j
  pub out : l.slot ≡ maybe.none

-- how a seat stands in the queue
abbrev pub InLine : {T : Type 0} → Line T → ℕ → Turn → Type 0
InLine l j Idle = Unit {0}
InLine l j (Waits t) = Waiting l j t
InLine l j (Has t) = Having l j t

-- ---- steps at a queue, over any table

abbrev pub no_value : {S : Type 0} → maybe.Option S
no_value = maybe.none

-- what a step tells, of any table
abbrev pub Told : Type 0 → Type 0 → Type 1
Told S V = Step S → Me S V → ℕ → Me S V → Type 0

-- a seat may try to take each ticket at a word, and a try that finds another leaves it as it was
pub record MayClaim {S V : Type 0} (holds : State S V → Type 0) (told : Told S V) (slots id : ℕ) (m : Me S V) (word : ℕ) : Type 0 where
  pub allowed : (old : ℕ) → Allows holds slots id m word (λ n. either (n == old) (old + 1) n) (told (step slots word old (old + 1) no_value) m)
  pub stays : (old found : ℕ) (m' : Me S V) → found ≢ old → told (step slots word old (old + 1) no_value) m found m' → m' ≡ m

-- a seat may look at a word, and a look that finds another ticket than its own leaves it as it was
pub record MayCome {S V : Type 0} (holds : State S V → Type 0) (told : Told S V) (slots id : ℕ) (m : Me S V) (word ticket : ℕ) : Type 0 where
  pub allowed : Allows holds slots id m word (λ n. n) (told (step slots word 0 0 no_value) m)
  pub stays : (found : ℕ) (m' : Me S V) → found ≢ ticket → told (step slots word 0 0 no_value) m found m' → m' ≡ m
