-- A user sees an event of a room where the last one that it sees up to the front has a position.
use Rattle.std.proofs.Common.{◌≡◌, ℕ, ◌<◌, ◌≤◌, Bool, List, Option, Some, None, is_some, length, nat_lt, nat_le, ◌&&◌, ap, sym, ◌∙◌, arith, refl, true}
use Rattle.std.proofs.lemmas.Bool.{le-ltb, lt-ltb}
use Rattle.std.proofs.lemmas.List.{take_all}
use Rattle.std.specs.List.{list_any}
use Rattle.mx_ids.specs.declared.room_id.RoomId.{RoomId}
use Rattle.mx_window.specs.Lasts.{last_at, last_of}
use Rattle.mx_window.specs.Windows.{between, stand_from}
use Rattle.mx_window.proofs.Each.{filter-swap}
use Rattle.mx_window.proofs.Intervals.{between-take, between-within}
use Rattle.mx_window.proofs.Lasts.{is_some-last_of, last_of-some}
use Rattle.mx_event.specs.Lawful.{of_room, same_room}
use Rattle.mx_event.specs.Shown.{position_of}
use Rattle.mx_event.specs.declared.event.Event.{Event}
use Rattle.mx_folding.specs.Visible.{is_visible}
use Rattle.mx_parts.specs.Readings.{events_of, front_of}
use Rattle.mx_parts.specs.declared.reading.Reading.{Reading}
use Rattle.mx_pager.specs.Pages.{sees}
use Rattle.mx_view.specs.Readings.{viewer_of}

whole_room : (room : RoomId) (events : List Event) → stand_from position_of 1 events ≡ true → between position_of 0 (length events) (of_room room events) ≡ of_room room events
whole_room room events placed =
    filter-swap (λ (e : Event). nat_lt 0 e.id.at && nat_le e.id.at (length events)) (λ (e : Event). same_room e.room room) events
    ∙ ap (of_room room) (between-take position_of (length events) events placed ∙ take_all (length events) events (omega arith))

some_seen : (test : Event → Bool) (high : ℕ) (es : List Event) → nat_lt 0 (last_at position_of 0 (last_of test (between position_of 0 high es))) ≡ is_some (last_of test (between position_of 0 high es))
some_seen test high es = by (last_of test (between position_of 0 high es)) refl where
  by : (o : Option Event) → last_of test (between position_of 0 high es) ≡ o → nat_lt 0 (last_at position_of 0 o) ≡ is_some o
  by None is = le-ltb 0 0 (omega arith)
  by (Some e) is =
      let above : 0 < e.id.at = (last_of-some (λ (d : Event). (0 < d.id.at) × (d.id.at ≤ high)) test (between position_of 0 high es) e (between-within position_of 0 high es) is).1.0 in
      lt-ltb 0 e.id.at above

pub sees_is : (v : Reading) → stand_from position_of 1 v.events.now ≡ true → (front last : ℕ) → front ≡ front_of v
    → last ≡ last_at position_of 0 (last_of (is_visible (viewer_of v.user.now) (events_of v) front) (between position_of 0 front (events_of v)))
    → nat_lt 0 last ≡ sees v.user.now (events_of v) (front_of v)
sees_is v placed front last here is =
    let test : Event → Bool = is_visible (viewer_of v.user.now) (events_of v) (front_of v) in
    ap (λ n. nat_lt 0 n) (is ∙ ap (λ f. last_at position_of 0 (last_of (is_visible (viewer_of v.user.now) (events_of v) f) (between position_of 0 f (events_of v)))) here)
    ∙ some_seen test (front_of v) (events_of v)
    ∙ sym (is_some-last_of test (between position_of 0 (front_of v) (events_of v)))
    ∙ ap (list_any test) (whole_room v.room.now v.events.now placed)
