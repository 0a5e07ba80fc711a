-- A backward page of a gap is the page that the folding law speaks of.
use Rattle.std.proofs.Common.{◌≡◌, ℕ, ◌-◌, Bool, true, false, cond, nat_lt, List, [], ◌∷◌, Option, Some, None, option_map, is_some, unwrap_or, map, reverse, length, refl, ap, ap₂, sym, ◌∙◌}
use Rattle.std.proofs.lemmas.List.{reverse-reverse}
use Rattle.mx_ids.specs.User.{server_of}
use Rattle.mx_ids.specs.declared.page_token.PageToken.{PageToken}
use Rattle.mx_ids.specs.declared.sync_token.SyncToken.{SyncToken}
use Rattle.mx_window.specs.Windows.{before_first}
use Rattle.mx_window.proofs.Each.{map-map, map-same}
use Rattle.mx_event.specs.Lawful.{of_room}
use Rattle.mx_event.specs.Redaction.{redacted}
use Rattle.mx_event.specs.Shown.{position_of, shown}
use Rattle.mx_event.specs.declared.event.Event.{Event}
use Rattle.mx_event.specs.declared.event.Shown.{Shown}
use Rattle.mx_folding.specs.Parts as parts
use Rattle.mx_folding.specs.Parts.{gap_at, members_of}
use Rattle.mx_folding.specs.Redactions as fold
use Rattle.mx_folding.specs.Rooms.{Room}
use Rattle.mx_folding.specs.Sections.{chunk, sendable}
use Rattle.mx_filter.specs.Sieves.{sieve_of}
use Rattle.mx_fold.specs.Replies as reply
use Rattle.mx_view.specs.Rooms.{Key, Sieve, room_of}
use Rattle.mx_view.specs.Shows.{shown_for}
use Rattle.mx_view.proofs.Pictured.{same_shown}
use Rattle.mx_pager.proofs.Turned.{map_reverse}
use Rattle.mx_pager.specs.Asks.{place_of}
use Rattle.mx_pager.specs.Laws.{PagesAre, events_shown, page_from}
use Rattle.mx_pager.specs.Pages.{page_of, shown_at}
use Rattle.mx_pager.specs.declared.asked.Bound.{Bound}
use Rattle.mx_pager.specs.declared.asked.Bound.TheVariants as bound
use Rattle.mx_pager.specs.declared.asked.PageAsk.{PageAsk}

is_some_if : {A : Type 0} (b : Bool) (x : A) → is_some (cond b (Some x) None) ≡ b
is_some_if true x = refl
is_some_if false x = refl

module _ (f : Sieve) (user : List ℕ) (es : List Event) (front : ℕ) where
  abbrev r : Room Event Key
  r = room_of f user es

  events_are : (xs : List Event) → events_shown (shown_at user es front xs) ≡ map (fold.shown r es front) xs
  events_are xs =
      map-map (λ (s : Shown). s.event) (shown_for user es front) xs
      ∙ map-same (λ e. shown es e front) (fold.shown r es front) (same_shown f user es front) xs

  -- the events of a backward chunk in order of position
  in_order : (xs : List Event) → reverse (events_shown (shown_at user es front (reverse xs))) ≡ map (fold.shown r es front) xs
  in_order xs = ap reverse (events_are (reverse xs) ∙ map_reverse (fold.shown r es front) xs) ∙ reverse-reverse (map (fold.shown r es front) xs)

  placed : (upper : ℕ) (xs : List Event) → before_first position_of upper (map (fold.shown r es front) xs) ≡ before_first position_of upper xs
  placed upper [] = refl
  placed upper (x ∷ xs) = by (fold.is_redacted r es front x) where
    by : (b : Bool) → position_of (cond b (redacted x) x) - 1 ≡ position_of x - 1
    by true = refl
    by false = refl

  module _ (limit lower upper cut : ℕ) where
    abbrev sent : List Event
    sent = chunk r es limit front lower upper

    abbrev more : Bool
    more = nat_lt (length sent) (length (sendable r es front lower upper))

    ends : unwrap_or (option_map (λ (t : PageToken). t.at) (cond more (Some (record { at = before_first position_of upper sent; e = cut })) None))
        (before_first position_of upper (reverse (events_shown (shown_at user es front (reverse sent))))) ≡ before_first position_of upper sent
    ends = by more where
      by : (b : Bool) → unwrap_or (option_map (λ (t : PageToken). t.at) (cond b (Some (record { at = before_first position_of upper sent; e = cut })) None))
          (before_first position_of upper (reverse (events_shown (shown_at user es front (reverse sent))))) ≡ before_first position_of upper sent
      by true = refl
      by false = ap (before_first position_of upper) (in_order sent) ∙ placed upper sent

    members : (lazy : Bool) → events_shown (unwrap_or (cond lazy (Some (shown_at user es front (members_of r es cut sent))) None) [])
        ≡ cond lazy (map (fold.shown r es front) (members_of r es cut sent)) []
    members true = events_are (members_of r es cut sent)
    members false = refl

    folded : (start : Bound)
        → page_from upper (record {
          chunk = shown_at user es front (reverse sent);
          start = start;
          end = cond more (Some (record { at = before_first position_of upper sent; e = cut })) None;
          members = cond r.lazy (Some (shown_at user es front (members_of r es cut sent))) None;
        }) ≡ parts.page_of r es limit front (gap_at lower upper cut)
    folded start = λ i. record { more = is_some_if {A = PageToken} more (record { at = before_first position_of upper sent; e = cut }) i; end = ends i; members = members r.lazy i; sent = in_order sent i }

lower_is : (to : Option SyncToken) → unwrap_or (option_map place_of (option_map bound.Sync to)) 0 ≡ reply.to_at to
lower_is None = refl
lower_is (Some t) = refl

pub pages_are : {V D : Type 0} → PagesAre V D
pages_are w lists user name ask asked is =
    let es : List Event = of_room asked.room lists.events in
    let front : ℕ = length lists.events in
    let literal : PageAsk = record {
      room = asked.room;
      backward = true;
      from = Some (bound.Page (record { at = asked.from_at; e = asked.from_cut }));
      to = option_map bound.Sync asked.to;
      limit = asked.limit;
      filter = ask.filter;
    } in
    let same : ask ≡ literal = λ i. record { room = is.room_is i; backward = is.backward i; from = is.from_is i; to = is.to_is i; limit = is.limit_is i; filter = ask.filter } in
    ap (λ (a : PageAsk). page_from asked.from_at (page_of lists.events user a)) same
    ∙ folded (sieve_of (server_of user) ask.filter.now.selection asked.room) user es front asked.limit
    (unwrap_or (option_map place_of (option_map bound.Sync asked.to)) 0) asked.from_at asked.from_cut (bound.Page (record { at = asked.from_at; e = asked.from_cut }))
    ∙ ap (λ n. parts.page_of (room_of (sieve_of (server_of user) ask.filter.now.selection asked.room) user es) es asked.limit front (gap_at n asked.from_at asked.from_cut)) (lower_is asked.to)
    ∙ ap₂ (λ n s. parts.page_of (room_of (sieve_of n s asked.room) user es) es asked.limit front (reply.asked_gap asked)) (sym name) is.filter_is
