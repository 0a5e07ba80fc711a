-- What each step at the table of the shards' turns tells: of the step, the seat before, the number found and the seat after.
use Rattle.std.specs.Prelude.{◌≡◌, ◌≢◌, ℕ, ◌+◌, ◌*◌, ◌^◌, ◌<◌, [], ◌∷◌, Option, Some}
use Rattle.atomic_table.specs.Seated.{TableId}
use Rattle.atomic_table.specs.Table.{Me, Step}
use Rattle.mx_front.specs.declared.view.Turn.TheVariants.{Idle, Waits, Has}
use Rattle.mx_writers.specs.declared.view.Ask.{Ask}

abbrev pub At : Type 0 → Type 0
At T = Step (Option T)

abbrev pub Sat : Type 0 → Type 0
Sat T = Me (Option T) Ask

-- a new seat
abbrev pub entered : {T : Type 0} → At T → Sat T → ℕ → Sat T → Type 0
entered st m found m' = m' ≡ m

-- a try to take a ticket of a writer
abbrev pub claimed : {T : Type 0} → At T → Sat T → ℕ → Sat T → Type 0
claimed st m found m' = (found ≡ st.first → (k : ℕ) → st.word ≡ 2 * k → m' ≡ (record m.0 { turn = Waits found; writer = k }, m.1)) × (found ≢ st.first → m' ≡ m)

-- the shard of the seat's writer is in hand
pub record Came {T : Type 0} (P : ℕ → TableId → T → Type 0) (m : Sat T) (found : ℕ) (m' : Sat T) : Type 0 where
  pub shard : T
  pub is : m' ≡ (record m.0 { turn = Has found }, (m.0.writer, Some shard) ∷ m.1)
  pub fits : P m.0.writer m.0.at shard

-- the ticket that is served: the seat has the shard where the ticket is its own
abbrev pub came : {T : Type 0} → (ℕ → TableId → T → Type 0) → At T → Sat T → ℕ → Sat T → Type 0
came P st m found m' = (m.0.turn ≡ Waits found → Came P m found m') × (m.0.turn ≢ Waits found → m' ≡ m)

-- the turn is over
abbrev pub left : {T : Type 0} → At T → Sat T → ℕ → Sat T → Type 0
left {T} st m found m' = (x : T) → m.1 ≡ (m.0.writer, Some x) ∷ [] → m' ≡ (record m.0 { turn = Idle }, [])

-- the seat has the turn of the writer k, with the shard in hand
pub record HasTurn {T : Type 0} (P : ℕ → TableId → T → Type 0) (at : TableId) (k ticket : ℕ) (m : Sat T) : Type 0 where
  pub shard : T
  pub is : m ≡ (record { turn = Has ticket; writer = k; at = at }, (k, Some shard) ∷ [])
  pub fits : P k at shard
  pub below : ticket + 1 < 2 ^ 64
