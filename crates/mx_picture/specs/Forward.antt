-- A forward page has what the picture's timeline has behind the place where it begins.
use Rattle.std.specs.Prelude.{◌≡◌, ℕ, ◌≤◌, false, true, cond, List, [], map, length, Option, Some, unwrap_or, option_map}
use Rattle.mx_ids.specs.User.{server_of}
use Rattle.mx_ids.specs.declared.page_token.PageToken.{PageToken}
use Rattle.mx_window.specs.Windows.{between, stand_from}
use Rattle.mx_event.specs.Shown.{position_of, shown}
use Rattle.mx_event.specs.declared.event.Event.{Event}
use Rattle.mx_folding.specs.Parts.{is_cons, members_of}
use Rattle.mx_folding.specs.Rooms.{Room}
use Rattle.mx_view.specs.Rooms.{Key, room_of}
use Rattle.mx_filter.specs.Sieves.{sieve_of}
use Rattle.mx_fold.specs.Lists.{Lists, events_in, fronts_of}
use Rattle.mx_fold.specs.Pictures.{picture}
use Rattle.mx_fold.specs.Servers.{Server}
use Rattle.mx_pager.specs.Asks.{high_of, low_of, start_of}
use Rattle.mx_pager.specs.Laws.{events_shown}
use Rattle.mx_pager.specs.Pages.{page_of}
use Rattle.mx_pager.specs.declared.asked.PageAsk.{PageAsk}
use Rattle.mx_pager.specs.declared.sent.Page.{Page}

-- the position up to which a page goes: its end, or the bound where it has none
abbrev pub reached : ℕ → Option PageToken → ℕ
reached high end = unwrap_or (option_map (λ (t : PageToken). t.at) end) high

-- the events of a timeline that a page goes over
abbrev pub gone_over : ℕ → PageAsk → Page → List Event → List Event
gone_over front ask p timeline = between position_of (low_of front ask) (reached (high_of front ask) p.end) timeline

-- The page has just the timeline's events after the place where it begins, up to its end, as many as its limit at most. It has an end where it is
-- full and one more follows, which has this front; and with lazy members it has the member events of its senders in the state at the front.
pub record IsForward (r : Room Event Key) (es timeline : List Event) (front : ℕ) (ask : PageAsk) (p : Page) : Type 0 where
  pub start : p.start ≡ start_of front ask
  pub sent : events_shown p.chunk ≡ gone_over front ask p timeline
  pub fits : length p.chunk ≤ ask.limit
  pub ends : (t : PageToken) → p.end ≡ Some t
      → (t.e ≡ front) × (length p.chunk ≡ ask.limit) × (is_cons (between position_of t.at (high_of front ask) timeline) ≡ true)
  pub members : events_shown (unwrap_or p.members []) ≡ cond r.lazy (map (λ e. shown es e front) (members_of r es front (events_shown p.chunk))) []

-- So it is of each forward page, over the picture at its front.
abbrev pub ForwardPagesAre : Type 0 → Type 0 → Type 0
ForwardPagesAre V D = (w : Server V D) (l : Lists) → stand_from position_of 1 l.events ≡ true → (user : List ℕ) → w.name ≡ server_of user
    → (ask : PageAsk) → ask.backward ≡ false
    → IsForward (room_of (sieve_of w.name ask.filter.now.selection ask.room) user (events_in l ask.room)) (events_in l ask.room)
    (picture w l user ask.filter.now.selection (fronts_of l) ask.room).timeline (length l.events) ask (page_of l.events user ask)
