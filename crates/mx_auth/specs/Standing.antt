-- The state of a room as contracts see it: the events that it took in, and beside them those that are ready to be taken in.
use Rattle.std.specs.Prelude.{List, [], refl}
use Rattle.std.specs.Coded.{Coded, code_by, coded×, coded_list}
use Rattle.mx_event.specs.declared.event.Event.{Event}

pub record Standing : Type 0 where
  -- the events that were taken in, in their order
  pub events : List Event
  -- the events that are ready: they can be taken in in this order, without memory
  pub ready : List Event

abbrev pub standing_code : Coded Event → Coded Standing
standing_code c = code_by (List Event × List Event) (coded× (coded_list c) (coded_list c)) (λ s. (s.events, s.ready)) (λ p. record { events = p.0; ready = p.1 }) (λ _. refl)

abbrev pub no_standing : Standing
no_standing = record { events = []; ready = [] }
