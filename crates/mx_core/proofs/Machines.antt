-- What each call of a machine needs of its state, over plain values.
use Rattle.std.proofs.Common.{◌≡◌, ℕ, ◌+◌, ◌<◌, ◌≤◌, ◌^◌, List, [], ◌∷◌, ◌++◌, Option, Some, None, length, get_or, set, drop, replicate, refl, sym, ap, ◌∙◌, subst, arith}
use Rattle.std.specs.Option.{IfSome}
use Rattle.std.proofs.lemmas.List.{get_or_default, drop_all, length-set, length-replicate}
use Rattle.mx_core.specs.Limits.{most_writers}
use Rattle.mx_core.specs.declared.history.Stored.{Stored}
use Rattle.mx_core.specs.declared.machine.Block.{Block}
use Rattle.mx_core.specs.Front.{IsFront}
use Rattle.mx_core.specs.Machine.{IsMachine}
use Rattle.mx_core.specs.Runs.{IsReached}
use Rattle.mx_core.specs.State.{State, block_of, free_to}
use Rattle.mx_core.proofs.Reached.{reached_start, reached_drawn, reached_stored, reached_front, held_in}

-- a block that was read in a list, at the default of a missing one
pub block_read : (held : List (Option Block)) (k : ℕ) (found o : Option Block) → k < length held → found ≡ get_or held k found → found ≡ o → get_or held k None ≡ o
block_read held k found o lt read is = get_or_default held k None found lt ∙ sym read ∙ is

if_some : {A : Type 0} (P : A → Type 0) (o : Option A) → ((x : A) → o ≡ Some x → P x) → IfSome o P
if_some P None f = tt
if_some P (Some x) f = f x refl

pub held_positive : {I : Type 0} (s : State I) (held : List (Option Block)) (k : ℕ) → IsReached s → held ≡ s.held → IfSome (get_or held k None) (λ b. 0 < b.first)
held_positive s held k reached is =
    subst (λ (l : List (Option Block)). IfSome (get_or l k None) (λ b. 0 < b.first)) (sym is)
    (if_some (λ b. 0 < b.first) (get_or s.held k None) (λ b e. (held_in s reached k b e).0))

pub front_found : {I : Type 0} (s : State I) (held : List (Option Block)) (front k : ℕ) → IsReached s → length held ≤ k → free_to front (drop k held) ≡ free_to s.next s.held → IsFront s.history front
front_found s held front k reached past is =
    subst (λ f. IsFront s.history f) (sym is ∙ ap (free_to front) (drop_all k held past)) (reached_front s reached)

pub machine_start : {I : Type 0} (writers limit : ℕ) (held : List (Option Block)) (history : List (Stored I)) → writers ≤ most_writers → limit ≤ 2 ^ 48 → held ≡ replicate writers None → history ≡ []
    → IsMachine (record { limit = limit; next = 0; held = held; history = history })
machine_start writers limit held history few below blocks empty =
    subst IsMachine (ap (λ l. record { limit = limit; next = 0; held = l; history = [] }) (sym blocks) ∙ ap (λ h. record { limit = limit; next = 0; held = held; history = h }) (sym empty))
    (record { reached = reached_start writers limit; limit = below; writers = omega (arith, length-replicate {A = Option Block} writers None) })

pub machine_drawn : {I : Type 0} (s : State I) (k count added : ℕ) → IsMachine s → k < length s.held → 0 < count → block_of s k ≡ None → s.next + added < s.limit → added ≡ count
    → IsMachine (record s { next = s.next + added; held = set s.held k (Some (record { first = s.next + 1; count = count })) })
machine_drawn s k count added m lt pos free below is =
    subst (λ n. IsMachine (record s { next = s.next + n; held = set s.held k (Some (record { first = s.next + 1; count = count })) })) (sym is)
    (record { reached = reached_drawn s k count m.reached lt pos free (omega arith); limit = m.limit; writers = omega (arith, m.writers, length-set s.held k (Some (record { first = s.next + 1; count = count }))) })

pub machine_stored : {I : Type 0} (s : State I) (k writer : ℕ) (b : Block) (items : List I) (history : List (Stored I)) → IsMachine s → k < length s.held → block_of s k ≡ Some b → b.count ≡ length items → writer ≡ k
    → history ≡ s.history ++ record { writer = writer; first = b.first; items = items } ∷ []
    → IsMachine (record s { held = set s.held k None; history = history })
machine_stored s k writer b items history m lt is count same more =
    subst (λ h. IsMachine (record s { held = set s.held k None; history = h }))
    (ap (λ w. s.history ++ record { writer = w; first = b.first; items = items } ∷ []) (sym same) ∙ sym more)
    (record { reached = reached_stored s k b items m.reached lt is count; limit = m.limit; writers = omega (arith, m.writers, length-set s.held k None) })
