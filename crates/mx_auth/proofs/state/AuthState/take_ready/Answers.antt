use Rattle.std.proofs.Common.{◌≡◌, ◌∷◌, drop, refl, sym, subst}
use Rattle.mx_event.specs.Lawful.{placed_event}
use Rattle.mx_auth.specs.Kept.{IsKept, IsWaiting, change_of}
use Rattle.mx_auth.specs.Standing.{Standing}
use Rattle.mx_auth.proofs.Next.{first_waiting, popped, rest_waiting}
use Rattle.mx_auth.proofs.state.AuthState.take_ready.Goals as goal

pub invariant_of-self : goal.invariant_of-self
invariant_of-self c =
    let s = c.self.inside in let waits = c.self.invariant.1 in let e = c.args.event.now in let es = s.ready.events in
    let begins : es ≡ e ∷ drop 1 es = subst (λ (t : Standing). t.ready ≡ e ∷ drop 1 t.ready) (sym c.self.view_is) c.requires in
    let first = first_waiting s.kept s.waiting.items es e begins waits in
    let is : c.unwrap-change.result ≡ change_of e = popped _ _ _ _ _ _ c.pop_front.ensures.items c.unwrap-change.ensures first.first in (
      subst (IsKept c.settle.new.self) (sym c.placed-self-inside.ensures)
          (c.settle.ensures.kept (placed_event e c.args.first c.args.at) s.taken.events is c.target.ensures c.as_str.ensures.text refl c.self.invariant.0),
      subst (λ xs. IsWaiting c.settle.new.self c.pop_front.new.self.items xs) (sym c.rest-self-inside.ensures)
          (rest_waiting s.kept c.settle.new.self s.waiting.items c.pop_front.new.self.items es e begins waits c.pop_front.ensures.rest c.settle.ensures.keys c.settle.ensures.names c.settle.ensures.spare),
    )
