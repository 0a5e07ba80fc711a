use Rattle.std.proofs.Common.{ap, map, ◌∙◌}
use Rattle.mx_auth.specs.Placing.{PlaceList, place_of}
use Rattle.mx_auth.proofs.Numbering.{still_placed}
use Rattle.mx_auth.proofs.places.Places.reserve.Goals as goal

pub returns-clause-items : goal.returns-clause-items
returns-clause-items c =
    ap (map (place_of c.add.new.self.names)) c.in_ok-reserve.ensures.items
    ∙ still_placed c.self.inside.senders.names c.add.new.self.names c.self.inside.items.items c.add.ensures.names c.self.invariant.2 ∙ ap (λ (l : PlaceList). l.items) c.self.view_is
