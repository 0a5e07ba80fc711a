use Rattle.std.proofs.Common.{◌≡◌, ◌∷◌, ◌+◌, List, map, drop, refl, ap, arith}
use Rattle.std.proofs.lemmas.Grind.{common_steps}
use Rattle.std.specs.Borrow.{Bor}
use Rattle.mx_event.specs.Kinds.{member_type}
use Rattle.mx_event.specs.declared.event.Event.{Event}
use Rattle.mx_snapshot.specs.Looks.{all_now}
use Rattle.mx_parts.specs.Picks.{sender_pair}
use Rattle.mx_parts.proofs.Early.{key_pushed}
use Rattle.mx_parts.proofs.state.add_senders.Goals as goal

pub events-preserved : goal.events-preserved
events-preserved c =
    let es = c.args.events.now in
    let i = c.events.event-index in
    let next : drop i es ≡ c.event-item.result ∷ drop (i + 1) es = grind (arith, common_steps, c.event-item.is, c.events-test.true) in
    key_pushed (λ (b : Bor Event). sender_pair b.now) (λ (l : List (Bor Event)). map sender_pair (all_now l)) (λ y ys. refl) c.events.keys.items c.push.new.self.items _ es i c.event-item.result _
    next c.in_ok-push.ensures.items (ap (λ s. (member_type, s)) c.as_str.ensures.text) c.events.invariant
