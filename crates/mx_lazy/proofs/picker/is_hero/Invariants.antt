use Rattle.std.proofs.Common.{◌≡◌, drop}
use Rattle.mx_lazy.specs.Picks.{is_hero}
use Rattle.mx_lazy.proofs.picker.is_hero.Given as goal

abbrev pub invariant-heroes : goal.invariant-heroes
invariant-heroes l = is_hero (drop l.hero-index l.hero-items) l.user ≡ is_hero l.hero-items l.user
