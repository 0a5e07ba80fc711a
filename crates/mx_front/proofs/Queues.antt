-- How the seats in a queue stand when another takes a ticket, takes what the slot has, or gives it back.
use Rattle.std.proofs.Common.{◌≡◌, ◌≢◌, ℕ, suc, ◌+◌, ◌==◌, ◌⊎◌, Some, ap, sym, ◌∙◌, subst, inl, inr, arith}
use Rattle.std.proofs.lemmas.Bool.{cases_eq}
use mathlib.Core.Option as maybe
use prog.Atomic.{either}
use Rattle.atomic_table.specs.Table.{State, Me, step, Allows}
use Rattle.mx_front.specs.declared.view.Turn.{Turn}
use Rattle.mx_front.specs.declared.view.Turn.TheVariants.{Idle, Waits, Has}
use Rattle.mx_front.specs.Queue.{Line, InLine, Told, MayClaim, no_value}
use Rattle.mx_front.proofs.Worlds.{change, change_else}

-- whether a turn is that of a ticket which is awaited
abbrev awaited : Turn → ℕ
awaited Idle = 0
awaited (Waits t) = suc t
awaited (Has t) = 0

pub turn_cases : (turn : Turn) (n : ℕ) → (turn ≡ Waits n) ⊎ (turn ≢ Waits n)
turn_cases Idle n = inr (λ e. let h : 0 ≡ suc n = ap awaited e in omega arith)
turn_cases (Waits t) n = elim (cases_eq t n) [
  | inl is ↦ inl (ap (λ i. let x : Turn = Waits i in x) is)
  | inr not ↦ inr (λ e. let h : suc t ≡ suc n = ap awaited e in not (omega arith))
]
turn_cases (Has t) n = inr (λ e. let h : 0 ≡ suc n = ap awaited e in omega arith)

pub not_served : (turn : Turn) (t found : ℕ) → turn ≡ Waits t → found ≢ t → turn ≢ Waits found
not_served turn t found is ne e = let h : suc t ≡ suc found = ap awaited (sym is ∙ e) in ne (omega (arith, h))

-- a seat that is as it was may try again
pub claims_again : {S V : Type 0} (holds : State S V → Type 0) (told : Told S V) (slots was id : ℕ) (m m' : Me S V) (word old : ℕ) → MayClaim holds told slots was m word → id ≡ was → m' ≡ m
    → Allows holds slots id m' word (λ n. either (n == old) (old + 1) n) (told (step slots word old (old + 1) no_value) m')
claims_again {S} {V} holds told slots was id m m' word old may is same =
    subst (λ (z : ℕ × Me S V). Allows holds slots z.0 z.1 word (λ n. either (n == old) (old + 1) n) (told (step slots word old (old + 1) no_value) z.1)) (λ i. (sym is i, sym same i)) (may.allowed old)

module _ {T : Type 0} where
  pub claimed_line : (l : Line T) (j id old : ℕ) (turn : Turn) → l.ticket ≡ old → InLine l j turn → InLine (record l { ticket = old + 1; ticket_of = change l.ticket_of old id }) j turn
  claimed_line l j id old Idle e q = tt
  claimed_line l j id old (Waits t) e q = record {
    from = q.from;
    below = omega (arith, q.below, e);
    mine = change_else l.ticket_of old id t (λ same. omega (arith, q.below, e, same)) ∙ q.mine;
    home = q.home;
  }
  claimed_line l j id old (Has t) e q = record {
    turn = q.turn;
    below = omega (arith, q.below, e);
    mine = change_else l.ticket_of old id t (λ same. omega (arith, q.below, e, same)) ∙ q.mine;
    out = q.out;
  }

  pub other_ticket : (l : Line T) (j id t : ℕ) → j ≢ id → l.ticket_of l.serving ≡ id → l.ticket_of t ≡ j → t ≢ l.serving
  other_ticket l j id t ne is mine same = ne (sym mine ∙ ap l.ticket_of same ∙ is)

  pub came_line : (l : Line T) (j id : ℕ) (turn : Turn) → j ≢ id → l.ticket_of l.serving ≡ id → InLine l j turn → InLine (record l { slot = maybe.none }) j turn
  came_line l j id Idle ne is q = tt
  came_line l j id (Waits t) ne is q = record { from = q.from; below = q.below; mine = q.mine; home = λ e. absurd (other_ticket l j id t ne is q.mine e) }
  came_line l j id (Has t) ne is q = absurd (other_ticket l j id t ne is q.mine q.turn)

  pub left_line : (l : Line T) (j id t : ℕ) (x : T) (turn : Turn) → j ≢ id → l.ticket_of l.serving ≡ id → t ≡ l.serving → InLine l j turn
      → InLine (record l { serving = t + 1; slot = maybe.some (Some x) }) j turn
  left_line l j id t x Idle ne is at q = tt
  left_line l j id t x (Waits u) ne is at q = record {
    from = let other : u ≢ l.serving = other_ticket l j id u ne is q.mine in omega (arith, q.from, at, other);
    below = q.below;
    mine = q.mine;
    home = λ e. tt;
  }
  left_line l j id t x (Has u) ne is at q = absurd (other_ticket l j id u ne is q.mine q.turn)
