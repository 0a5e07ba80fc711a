-- The steps of the walk to a user's last join.
use Rattle.std.proofs.Common.{◌≡◌, ℕ, ◌<◌, ◌≤◌, ◌-◌, true, false, List, Some, None, sym, ap, ◌∙◌, arith}
use Rattle.mx_ids.specs.declared.room_id.RoomId.{RoomId}
use Rattle.mx_window.specs.Lasts.{last_at, last_of}
use Rattle.mx_window.specs.Windows.{Ascends, between, stand_from}
use Rattle.mx_window.proofs.Intervals.{between-empty, between-within, Ascends-filter, Ascends-stand_from}
use Rattle.mx_window.proofs.Lasts.{last_of-some}
use Rattle.mx_event.specs.Lawful.{of_room, same_room}
use Rattle.mx_event.specs.Shown.{position_of}
use Rattle.mx_event.specs.declared.event.Event.{Event}
use Rattle.mx_folding.specs.Visible.{is_join}
use Rattle.mx_view.specs.Readings.{is_own, membership_of}
use Rattle.mx_visible.specs.Walks.{joins, last_join}
use Rattle.mx_visible.proofs.Joined.{back, no_own, own_joins}

pub room_ascends : (room : RoomId) (es : List Event) → stand_from position_of 1 es ≡ true → Ascends position_of 0 (of_room room es)
room_ascends room es placed = Ascends-filter position_of 0 (λ (e : Event). same_room e.room room) es (Ascends-stand_from position_of 0 1 es (omega arith) placed)

module _ (user : List ℕ) (front last : ℕ) (es : List Event) (passed : last_of (joins user) (between position_of 0 last es) ≡ last_of (joins user) (between position_of 0 front es)) where
  pub found : (e : Event) → last_of (is_own user) (between position_of 0 last es) ≡ Some e → is_join (membership_of e) ≡ true → e.id.at ≡ last_join user front es
  found e own joined = ap (last_at position_of 0) (sym (own_joins position_of (is_own user) (λ (d : Event). is_join (membership_of d)) (between position_of 0 last es) e own joined) ∙ passed)

  pub none : last_of (is_own user) (between position_of 0 last es) ≡ None → 0 ≡ last_join user front es
  none own = ap (last_at position_of 0) (sym (no_own position_of (is_own user) (λ (d : Event). is_join (membership_of d)) (between position_of 0 last es) own) ∙ passed)

  pub ended : last ≤ 0 → 0 ≡ last_join user front es
  ended low = ap (last_at position_of 0) (ap (last_of (joins user)) (sym (between-empty position_of 0 last es low)) ∙ passed)

  pub one_back : Ascends position_of 0 es → (e : Event) → last_of (is_own user) (between position_of 0 last es) ≡ Some e → is_join (membership_of e) ≡ false
      → last_of (joins user) (between position_of 0 (e.id.at - 1) es) ≡ last_of (joins user) (between position_of 0 front es)
  one_back up e own joined = back position_of (is_own user) (λ (d : Event). is_join (membership_of d)) 0 last es e up own joined ∙ passed

-- a version lies within its window
pub lies : (user : List ℕ) (last : ℕ) (es : List Event) (e : Event) → last_of (is_own user) (between position_of 0 last es) ≡ Some e → (0 < e.id.at) × (e.id.at ≤ last)
lies user last es e own = (last_of-some (λ (d : Event). (0 < d.id.at) × (d.id.at ≤ last)) (is_own user) (between position_of 0 last es) e (between-within position_of 0 last es) own).1
