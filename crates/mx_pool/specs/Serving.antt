-- What a server has served, and how it ends.
use Rattle.std.specs.Prelude.{◌≡◌, ℕ, zero, suc, ◌+◌, List, [], ◌++◌, Option, Some, None, IfSome, length, map, ⊤}
use Rattle.std.specs.List.{AllByRecursion, slice_get}
use Rattle.mx_outside.specs.Calls.{counted}
use Rattle.mx_fold.specs.Lists.{Histories}
use Rattle.mx_serve.specs.Together.{Together}
use Rattle.mx_pool.specs.Connections.{Change, Connected, Ends, IsConnected, Service, session_of}
use Rattle.mx_pool.specs.declared.serving.Served.{Served}
use Rattle.mx_pool.specs.declared.serving.Served.TheVariants as served
use Rattle.mx_pool.specs.declared.status.Status.{Status}
use Rattle.mx_pool.specs.declared.status.Status.TheVariants as status

-- no pair is left, where the listener tells them
abbrev pub HasNoneLeft : {P : Type 0} → Option (List P) → Type 0
HasNoneLeft left = IfSome left (λ ps. ps ≡ [])

-- a listener tells its pairs, at any time
abbrev pub IsTelling : {L P : Type 0} → (L → Option (List P)) → Type 0
IsTelling {L} left = (l : L) → left l ≡ None → ⊥

-- one of these pairs has these ends
abbrev pub IsOneOf : {P : Type 0} → (P → Ends) → List P → Ends → Type 0
IsOneOf ends ps e = (k : ℕ) × (slice_get (map ends ps) k ≡ Some e)

-- the ends are those of a pair that was left, where the listener tells its pairs
abbrev pub IsGiven : {L P : Type 0} → (L → Option (List P)) → (P → Ends) → Option (List P) → Ends → Type 0
IsGiven left ends pairs e = IsTelling left → IfSome pairs (λ ps. IsOneOf ends ps e)

-- so many pairs were taken, where these are told
abbrev pub AreTaken : {P : Type 0} → Change (Option (List P)) → ℕ → Type 0
AreTaken {P} pairs n = IfSome pairs.before (λ ps. IfSome pairs.after (λ qs. (front : List P) × (length front ≡ n) × (ps ≡ front ++ qs)))

-- a count of calls after so many more: it stops at its greatest value
abbrev pub after_calls : ℕ → ℕ → ℕ
after_calls zero n = n
after_calls (suc k) n = counted (after_calls k n)

-- the jobs that weren't started
abbrev pub refused_by : Served → ℕ
refused_by served.Closed = 0
refused_by served.ListenFailed = 0
refused_by served.StartRefused = 1
refused_by (served.Memory _) = 0

-- So many connections were begun: each is a job that was started, and has a pair that was taken. The pair of a job that wasn't started has none
pub record AreBegun {L P : Type 0} (left : L → Option (List P)) (pairs : Change (Option (List P))) (starts : Change ℕ) (how : Served) (n : ℕ) : Type 0 where
  pub starts_are : starts.after ≡ after_calls (n + refused_by how) starts.before
  pub taken : IsTelling left → AreTaken pairs (n + refused_by how)

-- What a server has served once it has ended: each connection that was begun. What was told on them is of one history, which is what
-- is seen in the end
pub record HasServed {L P : Type 0} (service : Service) (left : L → Option (List P)) (ends : P → Ends) (pairs : Change (Option (List P))) (starts : Change ℕ) (how : Served) (seen : Histories) : Type 0 where
  pub connections : List Connected
  pub served : AllByRecursion (IsConnected service (IsGiven left ends pairs.before) seen) connections
  pub begun : AreBegun left pairs starts how (length connections)
  pub together : Together service.site service.stops seen (map session_of connections)

-- no other status is a server's, once its users are read
abbrev pub IsServerStatus : Status → Type 0
IsServerStatus status.Done = ⊤
IsServerStatus status.Listener = ⊤
IsServerStatus (status.Memory _) = ⊤
IsServerStatus other = ⊥
