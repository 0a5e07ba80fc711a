use Rattle.std.proofs.Common.{◌≤◌, length, refl, sym, subst, ◌∙◌, arith}
use Rattle.mx_auth.specs.Kept.{IsKept}
use Rattle.mx_auth.proofs.Next.{count_waiting, still_waiting}
use Rattle.mx_auth.proofs.state.AuthState.take.Goals as goal

pub invariant_of-self : goal.invariant_of-self
invariant_of-self c =
    let s = c.self.inside in let waits = c.self.invariant.1 in (
      c.prepare.ensures.kept s.taken.events c.self.invariant.0,
      still_waiting s.kept c.prepare.new.self s.waiting.items s.ready.events c.prepare.ensures.keys c.prepare.ensures.names (omega (arith, waits.places, c.prepare.ensures.spare)) waits,
    )

pub invariant_of-self-2 : goal.invariant_of-self-2
invariant_of-self-2 c =
    let s = c.self.inside in let waits = c.self.invariant.1 in
    let enough : length s.ready.events ≤ c.settle.new.self.places.spare =
    omega (arith, count_waiting s.kept s.waiting.items s.ready.events waits, s.waiting.ok.0, c.len-count.ensures, c.in_ok-change.ensures.places, c.settle.ensures.spare) in (
      subst (IsKept c.settle.new.self) (sym c.with-self-inside.ensures)
          (c.settle.ensures.kept c.args.event.now s.taken.events c.in_ok-change.ensures.ready c.target.ensures c.as_str.ensures.text refl (c.prepare.ensures.kept s.taken.events c.self.invariant.0)),
      still_waiting s.kept c.settle.new.self s.waiting.items s.ready.events (λ k h. c.settle.ensures.keys k (c.prepare.ensures.keys k h)) (c.prepare.ensures.names.0, c.settle.ensures.names ∙ c.prepare.ensures.names.1) enough waits,
    )
