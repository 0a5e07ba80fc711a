-- A room after a page of any front and the redactions that its timeline then holds.
use Rattle.std.proofs.Common.{◌≡◌, ℕ, ◌≤◌, Bool, true, false, cond, ◌&&◌, List, [], ◌∷◌, ◌++◌, map, Option, Some, None, option_map, filter, refl, ap, sym, ◌∙◌, subst, arith}
use Rattle.std.proofs.lemmas.Bool.{false≢true}
use Rattle.std.specs.List.{AllByRecursion, Contains}
use Rattle.mx_window.specs.Windows.{Ascends}
use Rattle.mx_window.specs.Lasts.{last_of, keep_if}
use Rattle.mx_window.proofs.Each.{AllByRecursion-append, AllByRecursion-front, AllByRecursion-back, AllByRecursion-weaker, AllByRecursion-filter}
use Rattle.mx_window.proofs.Lasts.{last_of-some}
use Rattle.mx_folding.specs.Rooms.{Room, IsRoom, StaysSent, state_at, key_is, has}
use Rattle.mx_folding.specs.Sections.{sendable, chunk}
use Rattle.mx_folding.specs.Redactions.{is_named, shown}
use Rattle.mx_folding.specs.Parts.{is_sender, state_list, members_of, Gap, Page, page_of, gap_at}
use Rattle.mx_folding.specs.Clients.{Entry, Held, Open, held, ClientRoom, put_new, gap_if, with_page}
use Rattle.mx_folding.specs.Agreement.{TimelineAgrees, StateAgrees, is_owed, IsDue, RoomAgrees}
use Rattle.mx_folding.proofs.Timelines.{sendable-stays, Rises-around, timeline_page}
use Rattle.mx_folding.proofs.Cuts.{Sent, chunk_sent, shown_positions, sendable_ascends, sendable_within, shown_ascends, shown_within}
use Rattle.mx_folding.proofs.States.{shown_last, wanted_last, state_page}
use Rattle.mx_folding.proofs.Copies.{due_later, sent_due}
use Rattle.mx_folding.proofs.Owed.{held-append, held_page, owed_late, owed_page}
use Rattle.mx_folding.proofs.Replies.{contained_sendable, contained_state, or_some}
use Rattle.mx_refold.specs.Redacted.{room_redacted}
use Rattle.mx_refold.specs.Laws.{FoldsAnyPage, RedactsPart, RedactsPage}
use Rattle.mx_refold.proofs.Redacted as rooms
use Rattle.mx_refold.proofs.Redacted.{Loosely, loosely_agrees, absorbs, unnamed, page_in}

pub redacts_part : {E K : Type 0} → RedactsPart E K
redacts_part r es is after s t part room = rooms.redacts_part r es is after s t part room

pub redacts_page : {E K : Type 0} → RedactsPage E K
redacts_page r es is gap before behind page state by old = rooms.redacts_page r es is gap before behind page state by old

none_kept : {E : Type 0} (o : Option E) → keep_if (λ e. false) o ≡ None
none_kept None = refl
none_kept (Some e) = refl

module _ {E K : Type 0} (r : Room E K) (es : List E) (is : IsRoom r es) where
  -- what may be sent up to a front where the user was joined may be sent at all later ones
  stays_between : (g s t low high : ℕ) → StaysSent r es g → g ≤ s → g ≤ t → high ≤ g → sendable r es s low high ≡ sendable r es t low high
  stays_between g s t low high stays up later in' =
      sendable-stays r es g s low high stays up in' ∙ sym (sendable-stays r es g t low high stays later in')

  -- the page's members under a key
  members_under : (lazy : Bool) (e g : ℕ) (wanted : E → Bool) (k : K)
      → ◌≡◌ {A = Option E} (last_of (has r k) (cond lazy (map (shown r es e) (filter wanted (state_list r es g))) []))
      (option_map (shown r es e) (keep_if (λ v. lazy && wanted v) (state_at r es g k)))
  members_under true e g wanted k =
      shown_last r es e k (filter wanted (state_list r es g)) is ∙ ap (option_map (shown r es e)) (wanted_last r es wanted g k is)
  members_under false e g wanted k = sym (ap (option_map (shown r es e)) (none_kept (state_at r es g k)))

  -- copies as they are sent at a front, of which no redaction is asked
  sent_plain : (e front : ℕ) (vs : List E) → e ≤ front → AllByRecursion (Contains es) vs → AllByRecursion (IsDue r es front (λ p. false)) (map (shown r es e) vs)
  sent_plain e front vs upto in' = sent_due r es e front (λ p. false) vs upto in' (λ v h. absurd (false≢true h))

  members_plain : (lazy : Bool) (e g front : ℕ) (sent : List E) → e ≤ front
      → AllByRecursion (IsDue r es front (λ p. false)) (cond lazy (map (shown r es e) (members_of r es g sent)) [])
  members_plain true e g front sent upto =
      sent_plain e front (members_of r es g sent) upto
      (AllByRecursion-filter (Contains es) (λ v. key_is r.member (r.key v) && key_is (is_sender r sent) (r.key v)) (state_list r es g) (contained_state r es g))
  members_plain false e g front sent upto = tt

  module _ (limit b t front front' e : ℕ) (gap : Gap) (before behind : List (Entry E)) (state : K → Option E)
      (stays : StaysSent r es gap.front) (cut_in : gap.upper ≤ gap.front) (reached : gap.front ≤ e) (upto : e ≤ front') (in' : t ≤ front') (higher : front ≤ front')
      (agrees : RoomAgrees r es b t front (record { state = state; timeline = before ++ Open gap ∷ behind })) where
    abbrev page : Page E
    page = page_of r es limit e gap

    abbrev xs : List E
    xs = chunk r es limit e gap.lower gap.upper

    abbrev old : List (Entry E)
    old = before ++ Open gap ∷ behind

    abbrev timeline : List (Entry E)
    timeline = before ++ gap_if page.more (gap_at gap.lower page.end gap.front) ++ map Held page.sent ++ behind

    -- the room with the page, before any redaction
    abbrev taken : ClientRoom E K
    taken = record { state = put_new r page.members state; timeline = timeline }

    order : gap.lower ≤ gap.upper
    order = (Rises-around r.at t 0 t gap.lower gap.upper gap.front before behind agrees.timeline.order).1

    in_past : gap.front ≤ t
    in_past = (Rises-around r.at t 0 t gap.lower gap.upper gap.front before behind agrees.timeline.order).2

    facts : Sent r es e gap.lower gap.upper page.end xs page.more
    facts = chunk_sent r es limit e gap.lower gap.upper is order

    in_list : AllByRecursion (Contains es) xs
    in_list = subst (AllByRecursion (Contains es)) (sym facts.is) (contained_sendable r es e page.end gap.upper)

    fits : TimelineAgrees r es t timeline
    fits =
        let rises : Ascends r.at page.end xs = subst (Ascends r.at page.end) (sym facts.is) (sendable_ascends r es e page.end gap.upper is) in
        let within : AllByRecursion (λ v. r.at v ≤ gap.upper) xs =
        subst (AllByRecursion (λ v. r.at v ≤ gap.upper)) (sym facts.is) (sendable_within r es e page.end gap.upper) in
        let mid : page.end ≤ gap.upper = facts.q_high in
        timeline_page r es t gap.lower gap.upper gap.front page.end page.more page.sent before behind is facts.low_q facts.q_high
        (shown_positions r es e xs is ∙ ap (map r.at) (facts.is ∙ stays_between gap.front e t page.end gap.upper stays reached in_past cut_in))
        (shown_ascends r es e page.end xs is rises) (shown_within r es e gap.upper xs is within)
        (λ n. ap (map r.at) (stays_between gap.front t e gap.lower page.end stays in_past reached (omega arith) ∙ facts.none n)) agrees.timeline

    states : StateAgrees r es t (is_owed r b t timeline) taken.state
    states =
        let wanted : E → Bool = λ v. key_is r.member (r.key v) && key_is (is_sender r xs) (r.key v) in
        state_page r es gap.front t e (λ v. r.lazy && wanted v) page.members (is_owed r b t old) (is_owed r b t timeline) state is in_past
        (λ k. members_under r.lazy e gap.front wanted k)
        (λ k v h. owed_late r b t gap.lower gap.upper gap.front before behind k v h)
        (λ k v has owes. owed_page r es e b t gap.lower page.end gap.upper gap.front page.more xs before behind k v is has owes)
        agrees.state

    held_due : AllByRecursion (IsDue r es front' (λ p. false)) (held timeline)
    held_due =
        let named : ℕ → Bool = is_named r (held old) in
        let olds : AllByRecursion (IsDue r es front' (λ p. false)) (held before ++ held behind) =
        subst (AllByRecursion (IsDue r es front' (λ p. false))) (held-append before (Open gap ∷ behind))
        (AllByRecursion-weaker (IsDue r es front named) (IsDue r es front' (λ p. false))
        (λ c d. unnamed r es is front' named c (due_later r es front front' named c higher d)) (held old) agrees.held_copies) in
        subst (AllByRecursion (IsDue r es front' (λ p. false))) (sym (held_page before behind page.more gap.lower page.end gap.front page.sent))
        (AllByRecursion-append (IsDue r es front' (λ p. false)) (held before ++ page.sent) (held behind)
        (AllByRecursion-append (IsDue r es front' (λ p. false)) (held before) page.sent
        (AllByRecursion-front (IsDue r es front' (λ p. false)) (held before) (held behind) olds) (sent_plain e front' xs upto in_list))
        (AllByRecursion-back (IsDue r es front' (λ p. false)) (held before) (held behind) olds))

    state_due : (k : K) (c : E) → ◌≡◌ {A = Option E} (taken.state k) (Some c) → IsDue r es front' (λ p. false) c
    state_due k c =
        let named : ℕ → Bool = is_named r (held old) in
        or_some (IsDue r es front' (λ p. false)) (state k) (last_of (has r k) page.members) c
        (λ x h. unnamed r es is front' named x (due_later r es front front' named x higher (agrees.state_copies k x h)))
        (λ x h. (last_of-some (IsDue r es front' (λ p. false)) (has r k) page.members x (members_plain r.lazy e gap.front front' xs upto) h).1)

    paged : RoomAgrees r es b t front' (room_redacted r (with_page r gap before behind page state))
    paged =
        subst (RoomAgrees r es b t front') (sym (absorbs r es is page.sent taken (page_in r es is gap before behind page)))
        (loosely_agrees r es is b t front' taken in'
        (record { timeline = fits; state = states; held_copies = held_due; state_copies = state_due }))

pub folds_any_page : {E K : Type 0} → FoldsAnyPage E K
folds_any_page r es is limit b t front front' e gap before behind state stays cut_in reached upto in' higher agrees =
    paged r es is limit b t front front' e gap before behind state stays cut_in reached upto in' higher agrees
