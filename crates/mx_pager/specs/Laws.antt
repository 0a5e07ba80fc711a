-- A backward page of a gap that a sync left is the page that the folding law speaks of.
use Rattle.std.specs.Prelude.{◌≡◌, ℕ, List, [], map, reverse, option_map, is_some, unwrap_or, true, Some}
use Rattle.mx_ids.specs.User.{server_of}
use Rattle.mx_ids.specs.declared.page_token.PageToken.{PageToken}
use Rattle.mx_window.specs.Windows.{before_first}
use Rattle.mx_event.specs.Shown.{position_of}
use Rattle.mx_event.specs.declared.event.Event.{Event}
use Rattle.mx_event.specs.declared.event.Shown.{Shown}
use Rattle.mx_folding.specs.Parts as parts
use Rattle.mx_fold.specs.Lists.{Lists}
use Rattle.mx_fold.specs.Replies as fold
use Rattle.mx_fold.specs.Servers.{Server}
use Rattle.mx_pager.specs.Pages.{page_of}
use Rattle.mx_pager.specs.declared.asked.Bound.TheVariants as bound
use Rattle.mx_pager.specs.declared.asked.PageAsk.{PageAsk}
use Rattle.mx_pager.specs.declared.sent.Page.{Page}

abbrev pub events_shown : List Shown → List Event
events_shown shown = map (λ (s : Shown). s.event) shown

-- what a client folds of a backward page from a position on
abbrev pub page_from : ℕ → Page → parts.Page Event
page_from upper p = record {
  more = is_some p.end;
  end = unwrap_or (option_map (λ (t : PageToken). t.at) p.end) (before_first position_of upper (reverse (events_shown p.chunk)));
  members = events_shown (unwrap_or p.members []);
  sent = reverse (events_shown p.chunk);
}

-- the ask is for a gap that a sync left: from its page token back to a sync token or the room's start
pub record AsksGap (ask : PageAsk) (asked : fold.PageAsk) : Type 0 where
  pub backward : ask.backward ≡ true
  pub room_is : ask.room ≡ asked.room
  pub from_is : ask.from ≡ Some (bound.Page (record { at = asked.from_at; e = asked.from_cut }))
  pub to_is : ask.to ≡ option_map bound.Sync asked.to
  pub limit_is : ask.limit ≡ asked.limit
  pub filter_is : ask.filter.now.selection ≡ asked.filter

abbrev pub PagesAre : Type 0 → Type 0 → Type 0
PagesAre V D = (w : Server V D) (lists : Lists) (user : List ℕ) → w.name ≡ server_of user → (ask : PageAsk) (asked : fold.PageAsk) → AsksGap ask asked
    → page_from asked.from_at (page_of lists.events user ask) ≡ fold.page_asked w lists user asked
