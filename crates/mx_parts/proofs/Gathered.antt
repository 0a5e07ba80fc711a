-- What is sent of the events that are seen is what may be sent.
use Rattle.std.proofs.Common.{◌≡◌, ℕ, Bool, ◌&&◌, List, [], ◌∷◌, map, filter, refl, ap, inl, inr}
use Rattle.std.proofs.lemmas.Bool.{cases_Bool}
use Rattle.mx_window.specs.Windows.{between}
use Rattle.mx_event.specs.Shown.{position_of}
use Rattle.mx_event.specs.declared.event.Event.{Event}
use Rattle.mx_folding.specs.Sections.{sendable}
use Rattle.mx_folding.specs.Visible.{is_visible}
use Rattle.mx_view.specs.Readings.{viewer_of}
use Rattle.mx_view.specs.Rooms.{Sieve, room_of}
use Rattle.mx_lazy.specs.OfVisible.Walks.{sights}
use Rattle.mx_parts.specs.Gathers.{all_sent}

module _ (f : Sieve) (user : List ℕ) (es : List Event) (front : ℕ) where
  abbrev sent : Event → Bool
  sent e = is_visible (viewer_of user) es front e && f.passes e

  pub all_sent_is : (low high : ℕ) → all_sent f (sights user es front (between position_of low high es)) ≡ sendable (room_of f user es) es front low high
  all_sent_is low high = over (between position_of low high es) where
    over : (ds : List Event) → all_sent f (map (λ e. (e, is_visible (viewer_of user) es front e)) ds) ≡ filter sent ds
    over [] = refl
    over (d ∷ ds) = elim (cases_Bool (sent d)) [
      | inl b ↦ rw b (ap (λ l. d ∷ l) (over ds))
      | inr b ↦ rw b (over ds)
    ]
