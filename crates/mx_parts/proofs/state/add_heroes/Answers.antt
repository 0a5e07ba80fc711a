use Rattle.std.proofs.Common.{◌≡◌, ◌∷◌, ◌+◌, ℕ, List, map, drop, refl, ap, arith}
use Rattle.std.proofs.lemmas.Grind.{common_steps}
use Rattle.mx_event.specs.Kinds.{member_type}
use Rattle.mx_parts.specs.Picks.{hero_pair}
use Rattle.mx_parts.proofs.Early.{key_pushed}
use Rattle.mx_parts.proofs.state.add_heroes.Goals as goal

pub heroes-preserved : goal.heroes-preserved
heroes-preserved c =
    let hs = c.args.heroes.now in
    let i = c.heroes.hero-index in
    let next : drop i hs ≡ c.hero-item.result ∷ drop (i + 1) hs = grind (arith, common_steps, c.hero-item.is, c.heroes-test.true) in
    key_pushed hero_pair (λ (l : List (List ℕ)). map hero_pair l) (λ y ys. refl) c.heroes.keys.items c.push.new.self.items _ hs i c.hero-item.result _
    next c.in_ok-push.ensures.items (ap (λ s. (member_type, s)) c.as_str.ensures) c.heroes.invariant
