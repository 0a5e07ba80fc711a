-- How the rooms of a writer are coded.
use Rattle.std.specs.Prelude.{ℕ, List, refl}
use Rattle.std.specs.Coded.{Coded, code_by, coded×, coded_ℕ, coded_list}
use Rattle.mx_core.specs.declared.history.Stored.{Stored}
use Rattle.mx_event.specs.declared.event.Event.{Event}
use Rattle.mx_room.specs.Books.{Rooms}

abbrev pub stored_code : Coded Event → Coded (Stored Event)
stored_code c = code_by (ℕ × (ℕ × List Event)) (coded× coded_ℕ (coded× coded_ℕ (coded_list c))) (λ s. (s.writer, (s.first, s.items))) (λ p. record { writer = p.0; first = p.1.0; items = p.1.1 }) (λ _. refl)

abbrev pub rooms_code : Coded Event → Coded Rooms
rooms_code c =
    code_by (ℕ × (List (Stored Event) × List Event)) (coded× coded_ℕ (coded× (coded_list (stored_code c)) (coded_list c)))
    (λ b. (b.writer, (b.stores, b.pending))) (λ p. record { writer = p.0; stores = p.1.0; pending = p.1.1 }) (λ _. refl)
