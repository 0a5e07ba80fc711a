use Rattle.std.proofs.Common.{◌+◌, ◌≤◌, ◌∷◌, ◌++◌, [], length, sym, subst, arith}
use Rattle.mx_auth.specs.Kept.{IsWaiting}
use Rattle.mx_auth.proofs.Next.{count_waiting, more_waiting, still_waiting}
use Rattle.mx_auth.proofs.state.AuthState.make_ready.Goals as goal

pub invariant_of-self : goal.invariant_of-self
invariant_of-self c =
    let s = c.self.inside in let waits = c.self.invariant.1 in (
      c.prepare.ensures.kept s.taken.events c.self.invariant.0,
      still_waiting s.kept c.prepare.new.self s.waiting.items s.ready.events c.prepare.ensures.keys c.prepare.ensures.names (omega (arith, waits.places, c.prepare.ensures.spare)) waits,
    )

pub invariant_of-self-in_err-push_back : goal.invariant_of-self-in_err-push_back
invariant_of-self-in_err-push_back c =
    let s = c.self.inside in let waits = c.self.invariant.1 in (
      c.prepare.ensures.kept s.taken.events c.self.invariant.0,
      subst (λ ws. IsWaiting c.prepare.new.self ws s.ready.events) (sym c.in_err-push_back.ensures.items)
          (still_waiting s.kept c.prepare.new.self s.waiting.items s.ready.events c.prepare.ensures.keys c.prepare.ensures.names (omega (arith, waits.places, c.prepare.ensures.spare)) waits),
    )

pub invariant_of-self-2 : goal.invariant_of-self-2
invariant_of-self-2 c =
    let s = c.self.inside in let waits = c.self.invariant.1 in let w = c.in_ok-change.change in
    let enough : length s.ready.events + 1 ≤ c.prepare.new.self.places.spare =
    omega (arith, count_waiting s.kept s.waiting.items s.ready.events waits, s.waiting.ok.0, c.len-count.ensures, c.in_ok-change.ensures.places) in (
      c.prepare.ensures.kept s.taken.events c.self.invariant.0,
      subst (λ ws. IsWaiting c.prepare.new.self ws c.with-self-inside.result.events) (sym c.in_ok-push_back.ensures.items)
          (subst (λ es. IsWaiting c.prepare.new.self (s.waiting.items ++ w ∷ []) es) (sym c.with-self-inside.ensures)
          (more_waiting s.kept c.prepare.new.self s.waiting.items s.ready.events w c.args.event.now c.prepare.ensures.keys c.prepare.ensures.names enough c.in_ok-change.ensures.ready c.in_ok-change.ensures.place c.in_ok-change.ensures.known waits)),
    )
