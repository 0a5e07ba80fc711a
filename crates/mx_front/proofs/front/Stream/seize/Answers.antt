use Rattle.std.proofs.Common.{rules, length, sym, ap, ◌∙◌}
use Rattle.mx_front.proofs.Allowed.{looks_at}
use Rattle.mx_front.proofs.Seats.{has_turn, seized}
use Rattle.mx_front.proofs.front.Stream.seize.Goals as goal

pub load-requires : goal.load-requires
load-requires g c = (search rules, search rules, looks_at _ _ _ _ _ _ (has_turn _ _ _ c.enter-owed.ensures.entered))

pub returns-clause-seized : goal.returns-clause-seized
returns-clause-seized g c = seized _ _ _ _ _ _ c.enter-owed.ensures.entered c.load.ensures.2

pub returns-clause-count : goal.returns-clause-count
returns-clause-count g c = c.load.ensures.2.1.count ∙ sym (ap (λ m. length m.0.seen) c.load.ensures.2.0)
