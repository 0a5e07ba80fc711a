-- What is put together is the page.
use Rattle.std.proofs.Common.{◌≡◌, ℕ, Bool, true, false, cond, List, Option, Some, None, take, drop, reverse, ap, ap₂, subst, sym, ◌∙◌}
use Rattle.std.proofs.lemmas.List.{take-append-drop}
use Rattle.mx_ids.specs.declared.page_token.PageToken.{PageToken}
use Rattle.mx_window.specs.Windows.{stand_from}
use Rattle.mx_window.proofs.Each.{AllByRecursion-front}
use Rattle.mx_event.specs.Shown.{position_of}
use Rattle.mx_event.specs.declared.event.Event.{Event}
use Rattle.mx_event.specs.declared.event.Shown.{Shown}
use Rattle.mx_folding.specs.Parts.{members_of}
use Rattle.mx_folding.specs.Sections.{sendable}
use Rattle.mx_parts.specs.Readings.{events_of, front_of, room_in}
use Rattle.mx_parts.specs.Sections.{AreListed, IsListed}
use Rattle.mx_parts.specs.declared.reading.Reading.{Reading}
use Rattle.mx_parts.proofs.Shown.{section_listed, sendable_listed}
use Rattle.mx_pager.proofs.Turned.{reverse_each}
use Rattle.mx_pager.specs.Asks.{high_of, low_of, start_of}
use Rattle.mx_pager.specs.Pages.{chosen_between, has_more_between, members_at, next_place, page_in, shown_at}
use Rattle.mx_pager.specs.declared.asked.Bound.{Bound}
use Rattle.mx_pager.specs.declared.asked.PageAsk.{PageAsk}
use Rattle.mx_pager.specs.declared.sent.Page.{Page}

module _ (v : Reading) (ask : PageAsk) where
  pub chosen_listed : stand_from position_of 1 v.events.now ≡ true → (low high : ℕ) → AreListed v (chosen_between (room_in v) (events_of v) (front_of v) ask low high)
  chosen_listed placed low high = by ask.backward where
    by : (b : Bool) → AreListed v (chosen_between (room_in v) (events_of v) (front_of v) (record ask { backward = b }) low high)
    by true = section_listed v placed (record { after = true; limit = ask.limit; low = low; high = high })
    by false =
        AllByRecursion-front (IsListed v) (take ask.limit (sendable (room_in v) (events_of v) (front_of v) low high))
        (drop ask.limit (sendable (room_in v) (events_of v) (front_of v) low high))
        (subst (AreListed v) (sym (take-append-drop ask.limit (sendable (room_in v) (events_of v) (front_of v) low high))) (sendable_listed v placed low high))

  pub ordered_listed : (b : Bool) (events : List Event) → AreListed v events → AreListed v (cond b (reverse events) events)
  ordered_listed true events all = reverse_each (IsListed v) events all
  ordered_listed false events all = all

  pub page_is : (front low high position : ℕ) (events ordered : List Event) (more : Bool) (chunk : List Shown) (start : Bound) (end : Option PageToken) (members : Option (List Shown))
      → front ≡ front_of v → low ≡ low_of front ask → high ≡ high_of front ask
      → events ≡ chosen_between (room_in v) (events_of v) (front_of v) ask low high → more ≡ has_more_between (room_in v) (events_of v) (front_of v) ask low high
      → position ≡ members_at front ask → ordered ≡ cond ask.backward (reverse events) events → chunk ≡ shown_at v.user.now (events_of v) (front_of v) ordered
      → start ≡ start_of front ask → end ≡ cond more (Some (next_place front ask events)) None
      → members ≡ cond (room_in v).lazy (Some (shown_at v.user.now (events_of v) (front_of v) (members_of (room_in v) (events_of v) position events))) None
      → ◌≡◌ {A = Page} (record { chunk = chunk; start = start; end = end; members = members }) (page_in (room_in v) v.user.now (events_of v) (front_of v) ask)
  page_is front low high position events ordered more chunk start end members here low_is high_is events_is more_is at ordered_is chunk_is start_is end_is members_are =
      let low2 = low_is ∙ ap (λ n. low_of n ask) here in
      let high2 = high_is ∙ ap (λ n. high_of n ask) here in
      let events2 = events_is ∙ ap₂ (λ l h. chosen_between (room_in v) (events_of v) (front_of v) ask l h) low2 high2 in
      let more2 = more_is ∙ ap₂ (λ l h. has_more_between (room_in v) (events_of v) (front_of v) ask l h) low2 high2 in
      let at2 = at ∙ ap (λ n. members_at n ask) here in
      let chunk2 = chunk_is ∙ ap (shown_at v.user.now (events_of v) (front_of v)) (ordered_is ∙ ap (λ (l : List Event). cond ask.backward (reverse l) l) events2) in
      let start2 = start_is ∙ ap (λ n. start_of n ask) here in
      let end2 = end_is ∙ (λ i. cond (more2 i) (Some (next_place (here i) ask (events2 i))) None) in
      let members2 = members_are ∙ ap₂ (λ (n : ℕ) (l : List Event). cond (room_in v).lazy (Some (shown_at v.user.now (events_of v) (front_of v) (members_of (room_in v) (events_of v) n l))) None) at2 events2 in
      λ i. record { chunk = chunk2 i; start = start2 i; end = end2 i; members = members2 i }
