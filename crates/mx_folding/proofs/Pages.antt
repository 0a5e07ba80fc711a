-- What a page sends of a gap, and the room after it.
use Rattle.std.proofs.Common.{◌≡◌, ℕ, ◌≤◌, Bool, true, false, cond, ◌&&◌, ◌||◌, List, [], ◌∷◌, ◌++◌, map, Option, Some, None, option_map, filter, refl, ap, sym, ◌∙◌, subst, arith}
use Rattle.std.specs.List.{AllByRecursion, Contains}
use Rattle.mx_window.specs.Windows.{Ascends, before_first}
use Rattle.mx_window.specs.Lasts.{last_of, keep_if}
use Rattle.mx_window.proofs.Each.{AllByRecursion-map, AllByRecursion-append, AllByRecursion-front, AllByRecursion-back, AllByRecursion-weaker, AllByRecursion-filter}
use Rattle.mx_window.proofs.Lasts.{last_of-some}
use Rattle.mx_folding.specs.Rooms.{Room, IsRoom, state_at, key_is, has}
use Rattle.mx_folding.specs.Sections.{chunk}
use Rattle.mx_folding.specs.Redactions.{is_named, is_redacted, shown, redact_by}
use Rattle.mx_folding.specs.Parts.{is_sender, state_list, Page, page_of, gap_at}
use Rattle.mx_folding.specs.Clients.{Entry, Held, Open, held, put_new, gap_if, redact_entry}
use Rattle.mx_folding.specs.Agreement.{pictured, TimelineAgrees, is_owed, IsCopy, IsDue}
use Rattle.mx_folding.proofs.Redacting.{redact_by-at}
use Rattle.mx_folding.proofs.Timelines.{sendable-stays, filled-redact, Rises-order, Rises-around, Rises-redact, timeline_page}
use Rattle.mx_folding.proofs.Cuts.{Sent, chunk_sent, shown_positions, sendable_ascends, sendable_within, shown_ascends, shown_within}
use Rattle.mx_folding.proofs.States.{shown_last, wanted_last, state_page, state_redact}
use Rattle.mx_folding.proofs.Copies.{due_later, due_redact, sent_copies, sent_due, is_named-append, is_named-redact}
use Rattle.mx_folding.proofs.Owed.{held-append, held-redact, held_page, owed_redact, owed_late, owed_page}
use Rattle.mx_folding.specs.Laws.{FoldsPage}
use Rattle.mx_folding.proofs.Replies.{contained_sendable, contained_state, named_early, map_some, or_some}

keep_if-none : {E : Type 0} (p : E → Bool) (o : Option E) → ((e : E) → p e ≡ false) → keep_if p o ≡ None
keep_if-none p None h = refl
keep_if-none p (Some e) h = rw (h e) refl

-- a page's members have under each key the state's at gap_front, if the client loads members lazily and the key is a sender's
page_members : {E K : Type 0} (r : Room E K) (es : List E) (lazy : Bool) (front gap_front : ℕ) (wanted : E → Bool) (k : K) → IsRoom r es
    → ◌≡◌ {A = Option E} (last_of (has r k) (cond lazy (map (shown r es front) (filter wanted (state_list r es gap_front))) []))
    (option_map (shown r es front) (keep_if (λ v. lazy && wanted v) (state_at r es gap_front k)))
page_members r es true front gap_front wanted k room =
    shown_last r es front k (filter wanted (state_list r es gap_front)) room ∙ ap (option_map (shown r es front)) (wanted_last r es wanted gap_front k room)
page_members r es false front gap_front wanted k room =
    ap (option_map (shown r es front)) (sym (keep_if-none (λ v. false) (state_at r es gap_front k) (λ e. refl)))

cond_due : {E : Type 0} (P : E → Type 0) (lazy : Bool) (xs : List E) → AllByRecursion P xs → AllByRecursion P (cond lazy xs [])
cond_due P true xs h = h
cond_due P false xs h = tt

name_order : (a b c : Bool) → ((a || b) || c) ≡ ((a || c) || b)
name_order true b c = refl
name_order false true true = refl
name_order false true false = refl
name_order false false true = refl
name_order false false false = refl

-- a room after a page
pub folds_page : {E K : Type 0} → FoldsPage E K
folds_page {E = E} {K = K} r es is limit b t front front' e gap before behind state stays up later higher agrees =
    let lower : ℕ = gap.lower in
    let upper : ℕ = gap.upper in
    let gap_front : ℕ = gap.front in
    let xs : List E = chunk r es limit e lower upper in
    let page : Page E = page_of r es limit e (gap_at lower upper gap_front) in
    let mid : ℕ = before_first r.at upper xs in
    let sent : List E = map (shown r es e) xs in
    let members : List E = page.members in
    let old : List (Entry E) = before ++ Open (gap_at lower upper gap_front) ∷ behind in
    let tl : List (Entry E) = before ++ gap_if page.more (gap_at lower mid gap_front) ++ map Held sent ++ behind in
    let named : ℕ → Bool = is_named r (held old) in
    let named' : ℕ → Bool = is_named r (held (map (redact_entry r sent) tl)) in
    let around = Rises-around r.at t 0 t lower upper gap_front before behind agrees.timeline.order in
    let low_up : lower ≤ upper = around.1 in
    let g_t : gap_front ≤ t = around.2 in
    let up_t : upper ≤ t = Rises-order r.at t upper t behind around.3 in
    let facts : Sent r es e lower upper mid xs page.more = chunk_sent r es limit e lower upper is low_up in
    let mid_up : mid ≤ upper = facts.q_high in
    let in_xs : AllByRecursion (Contains es) xs = subst (AllByRecursion (Contains es)) (sym facts.is) (contained_sendable r es e mid upper) in
    let rises : Ascends r.at mid xs = subst (Ascends r.at mid) (sym facts.is) (sendable_ascends r es e mid upper is) in
    let within : AllByRecursion (λ v. r.at v ≤ upper) xs = subst (AllByRecursion (λ v. r.at v ≤ upper)) (sym facts.is) (sendable_within r es e mid upper) in
    let fits : TimelineAgrees r es t tl = timeline_page r es t lower upper gap_front mid page.more sent before behind is facts.low_q facts.q_high
    (shown_positions r es e xs is
    ∙ ap (map r.at) (facts.is ∙ sendable-stays r es t e mid upper stays up up_t)) (shown_ascends r es e mid xs is rises)
    (shown_within r es e upper xs is within)
    (λ n. ap (map r.at) (sym (sendable-stays r es t e lower mid stays up (omega arith)) ∙ facts.none n)) agrees.timeline in
    let copies : held (map (redact_entry r sent) tl) ≡ map (redact_by r sent) (held before ++ sent ++ held behind) =
    held-redact r sent tl ∙ ap (map (redact_by r sent)) (held_page before behind page.more lower mid gap_front sent) in
    let olds : held old ≡ held before ++ held behind = held-append before (Open (gap_at lower upper gap_front) ∷ behind) in
    let joined : (p : ℕ) → named' p ≡ (named p || is_named r sent p) = λ p.
    ap (λ l. is_named r l p) copies ∙ is_named-redact r es sent (held before ++ sent ++ held behind) p is
    ∙ is_named-append r (held before ++ sent) (held behind) p ∙ ap (λ x. x || is_named r (held behind) p) (is_named-append r (held before) sent p)
    ∙ name_order (is_named r (held before) p) (is_named r sent p) (is_named r (held behind) p)
    ∙ ap (λ x. x || is_named r sent p) (sym (is_named-append r (held before) (held behind) p) ∙ ap (λ l. is_named r l p) (sym olds)) in
    let early : (v : E) → named (r.at v) ≡ true → is_redacted r es e v ≡ true =
    named_early r es front t e named old is up agrees.timeline.order agrees.held_copies in
    let due : (vs : List E) → AllByRecursion (Contains es) vs → AllByRecursion (IsDue r es front' named) (map (shown r es e) vs) =
    λ vs h. sent_due r es e front' named vs later h early in
    let by : AllByRecursion (λ c. IsCopy r es c × (r.at c ≤ front')) sent =
    sent_copies r es e front' xs is in_xs
    (AllByRecursion-weaker (λ v. r.at v ≤ upper) (λ v. r.at v ≤ front') (λ v h. let h' : r.at v ≤ upper = h in omega arith) xs within) in
    let redacted : (c : E) → IsDue r es front' named c → IsDue r es front' named' (redact_by r sent c) =
    λ c d. due_redact r es sent front' named named' c is by joined d in
    let held_old : AllByRecursion (IsDue r es front' named) (held before ++ held behind) =
    subst (AllByRecursion (IsDue r es front' named)) olds
    (AllByRecursion-weaker (IsDue r es front named) (IsDue r es front' named)
    (λ c d. due_later r es front front' named c higher d) (held old) agrees.held_copies) in
    let members_due : AllByRecursion (IsDue r es front' named) members =
    cond_due (IsDue r es front' named) r.lazy
    (map (shown r es e) (filter (λ v. key_is r.member (r.key v) && key_is (is_sender r xs) (r.key v)) (state_list r es gap_front)))
    (due (filter (λ v. key_is r.member (r.key v) && key_is (is_sender r xs) (r.key v)) (state_list r es gap_front))
    (AllByRecursion-filter (Contains es) (λ v. key_is r.member (r.key v)
    && key_is (is_sender r xs) (r.key v)) (state_list r es gap_front) (contained_state r es gap_front))) in
    record {
      timeline = record { whole = filled-redact r es sent is (pictured r es t) tl ∙ fits.whole; order = Rises-redact r es sent is t 0 t tl fits.order };
      state =
          state_redact r es t (is_owed r b t tl) (is_owed r b t (map (redact_entry r sent) tl)) (redact_by r sent)
          (put_new r members state) (λ c. redact_by-at r es sent is c)
          (λ k v. owed_redact r es sent b t tl k v is)
          (state_page r es gap_front t e (λ v. r.lazy
          && (key_is r.member (r.key v) && key_is (is_sender r xs) (r.key v))) members (is_owed r b t old) (is_owed r b t tl) state is g_t
          (λ k. page_members r es r.lazy e gap_front (λ v. key_is r.member (r.key v) && key_is (is_sender r xs) (r.key v)) k is)
          (λ k v h. owed_late r b t lower upper gap_front before behind k v h)
          (λ k v has owes. owed_page r es e b t lower mid upper gap_front page.more xs before behind k v is has owes)
          agrees.state);
      held_copies = subst (AllByRecursion (IsDue r es front' named')) (sym copies)
          (AllByRecursion-map (IsDue r es front' named') (redact_by r sent) (held before ++ sent ++ held behind)
          (AllByRecursion-weaker (IsDue r es front' named) (λ c. IsDue r es front' named' (redact_by r sent c)) redacted (held before ++ sent ++ held behind)
          (AllByRecursion-append (IsDue r es front' named) (held before ++ sent) (held behind)
          (AllByRecursion-append (IsDue r es front' named) (held before) sent
          (AllByRecursion-front (IsDue r es front' named) (held before) (held behind) held_old) (due xs in_xs))
          (AllByRecursion-back (IsDue r es front' named) (held before) (held behind) held_old))));
      state_copies = λ k c. map_some (redact_by r sent) (IsDue r es front' named') (put_new r members state k) c
          (λ x f. redacted x (or_some (IsDue r es front' named) (state k) (last_of (has r k) members) x
          (λ y h. due_later r es front front' named y higher (agrees.state_copies k y h))
          (λ y h. (last_of-some (IsDue r es front' named) (has r k) members y members_due h).1) f));
    }
