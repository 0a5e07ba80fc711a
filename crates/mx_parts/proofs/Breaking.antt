-- The walk back to the last break of a window.
use Rattle.std.proofs.Common.{◌≡◌, ℕ, ◌<◌, ◌≤◌, ◌-◌, Bool, true, false, not, ◌&&◌, List, Option, Some, None, is_some, option_map, refl, ap, ap₂, sym, ◌∙◌, arith}
use Rattle.mx_window.specs.Lasts.{last_at, last_of}
use Rattle.mx_window.specs.Windows.{between}
use Rattle.mx_window.proofs.Each.{AllByRecursion-every}
use Rattle.mx_window.proofs.Intervals.{between-within}
use Rattle.mx_window.proofs.Lasts.{last_of-same, last_of-some}
use Rattle.mx_event.specs.Lawful.{of_room}
use Rattle.mx_event.specs.Shown.{position_of}
use Rattle.mx_event.specs.declared.event.Event.{Event}
use Rattle.mx_folding.specs.Rooms.{is_kept}
use Rattle.mx_folding.specs.Sections.{break_at}
use Rattle.mx_view.specs.Rooms.{Key}
use Rattle.mx_parts.specs.Gathers.{is_hidden}
use Rattle.mx_parts.specs.Readings.{events_of, front_of, room_in, sieve}
use Rattle.mx_parts.specs.declared.reading.Reading.{Reading}

is_keyed : (e : Event) (o : Option (List ℕ)) → is_some o ≡ is_some {T = Key} (option_map (λ (key : List ℕ). (e.kind, key)) o)
is_keyed e None = refl
is_keyed e (Some key) = refl

joined : (a b c : Bool) → (a && (b && c)) ≡ ((a && b) && c)
joined true b c = refl
joined false b c = refl

module _ (v : Reading) where
  abbrev pub hides : Event → Bool
  hides e = is_hidden v (events_of v) (front_of v) e

  same_test : (e : Event) → (is_some e.state_key && hides e) ≡ (is_kept (room_in v) e && not ((room_in v).sends (front_of v) e))
  same_test e =
      ap (λ b. b && hides e) (is_keyed e e.state_key)
      ∙ joined (is_some {T = Key} (option_map (λ (key : List ℕ). (e.kind, key)) e.state_key)) ((sieve v).keeps e) (not ((room_in v).sends (front_of v) e))

  pub broken : (low high : ℕ) → last_at position_of low (last_of (λ e. is_some e.state_key && hides e) (between position_of low high (events_of v)))
      ≡ break_at (room_in v) (events_of v) (front_of v) low high
  broken low high =
      ap (last_at position_of low) (last_of-same (λ e. is_some e.state_key && hides e) (λ e. is_kept (room_in v) e && not ((room_in v).sends (front_of v) e)) (between position_of low high (events_of v))
      (AllByRecursion-every (λ e. (is_some e.state_key && hides e) ≡ (is_kept (room_in v) e && not ((room_in v).sends (front_of v) e))) same_test (between position_of low high (events_of v))))

  pub hidden_now : (front : ℕ) (e : Event) (told : Bool) → e.room ≡ v.room.now → front ≡ front_of v → told ≡ is_hidden v (of_room e.room v.events.now) front e
      → (t : Bool) → told ≡ t → hides e ≡ t
  hidden_now front e told room_is front_is told_is t is =
      ap₂ (λ room f. is_hidden v (of_room room v.events.now) f e) (sym room_is) (sym front_is) ∙ sym told_is ∙ is

  pub lies : (end : ℕ) (e : Event) → last_of (λ d. is_some d.state_key) (between position_of 0 end (events_of v)) ≡ Some e → (0 < e.id.at) × (e.id.at ≤ end)
  lies end e is =
      (last_of-some (λ (d : Event). (0 < d.id.at) × (d.id.at ≤ end)) (λ d. is_some d.state_key) (between position_of 0 end (events_of v)) e (between-within position_of 0 end (events_of v)) is).1
