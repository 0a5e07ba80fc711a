use Rattle.std.proofs.Common.{◌≡◌, ◌++◌, drop, map}
use Rattle.mx_parts.specs.Picks.{hero_pair, key_pair}
use Rattle.mx_parts.proofs.state.add_heroes.Given as goal

abbrev pub invariant-heroes : goal.invariant-heroes
invariant-heroes l = map key_pair l.keys.items ++ map hero_pair (drop l.hero-index l.heroes) ≡ map key_pair l.fn.keys.items ++ map hero_pair l.heroes
