-- Rooms after the redactions that their timelines hold.
use Rattle.std.proofs.Common.{◌≡◌, ℕ, ◌≤◌, Bool, true, false, cond, ◌||◌, List, [], ◌∷◌, ◌++◌, map, Option, Some, None, option_map, refl, ap, ap₂, sym, ◌∙◌, subst, inl, inr, arith}
use Rattle.std.proofs.lemmas.Bool.{cases_Bool, or_left, or_right, false≢true}
use Rattle.std.proofs.lemmas.List.{map-append}
use Rattle.std.specs.List.{AllByRecursion}
use Rattle.std.specs.Option.{option_or}
use Rattle.mx_window.specs.Lasts.{last_of}
use Rattle.mx_window.proofs.Each.{AllByRecursion-map, AllByRecursion-weaker, AllByRecursion-both, map-map, map-same}
use Rattle.mx_folding.specs.Rooms.{Room, IsRoom, has}
use Rattle.mx_folding.specs.Redactions.{is_named, redact_by}
use Rattle.mx_folding.specs.Parts.{Part, Page, Gap, gap_at}
use Rattle.mx_folding.specs.Clients.{Entry, Held, Open, ClientRoom, held, gap_if, put_all, put_new, redact_entry, redacted_room, with_part, with_page}
use Rattle.mx_folding.specs.Agreement.{pictured, TimelineAgrees, StateAgrees, is_owed, IsCopy, IsDue, RoomAgrees}
use Rattle.mx_folding.proofs.Redacting.{redact_by-at}
use Rattle.mx_folding.proofs.Timelines.{filled-redact, Rises-redact}
use Rattle.mx_folding.proofs.States.{state_redact}
use Rattle.mx_folding.proofs.Copies.{due_redact, is_named-append, is_named-redact}
use Rattle.mx_folding.proofs.Owed.{held-append, held-redact, held_page, held_reply, owed_redact}
use Rattle.mx_folding.proofs.Replies.{held_within, map_some}
use Rattle.mx_refold.specs.Redacted.{room_redacted}

-- whom the first list names the second names too
abbrev pub NamesMore : {E K : Type 0} → Room E K → List E → List E → Type 0
NamesMore r few more = (p : ℕ) → is_named r few p ≡ true → is_named r more p ≡ true

-- the two lists name the same
abbrev pub NameSame : {E K : Type 0} → Room E K → List E → List E → Type 0
NameSame r by by' = (p : ℕ) → is_named r by p ≡ is_named r by' p

module _ {E K : Type 0} (r : Room E K) (es : List E) (is : IsRoom r es) where
  copy_same : (by by' : List E) → NameSame r by by' → (c : E) → redact_by r by c ≡ redact_by r by' c
  copy_same by by' same c = ap (λ b. cond b (r.red c) c) (same (r.at c))

  -- what fewer redactions did more do
  copy_twice : (few more : List E) → NamesMore r few more → (c : E) → redact_by r more (redact_by r few c) ≡ redact_by r more c
  copy_twice few more in' c = elim (cases_Bool (is_named r few (r.at c))) [
    | inl a ↦
        let b : is_named r more (r.at c) ≡ true = in' (r.at c) a in
        rw a (
        ap (λ p. cond (is_named r more p) (r.red (r.red c)) (r.red c)) (is.red_at c)
        ∙ ap (λ x. cond x (r.red (r.red c)) (r.red c)) b
        ∙ is.red_red c ∙ sym (ap (λ x. cond x (r.red c) c) b))
    | inr a ↦ rw a refl
  ]

  entry_same : (by by' : List E) → NameSame r by by' → (x : Entry E) → redact_entry r by x ≡ redact_entry r by' x
  entry_same by by' same (Held c) = ap Held (copy_same by by' same c)
  entry_same by by' same (Open gap) = refl

  entry_twice : (few more : List E) → NamesMore r few more → (x : Entry E) → redact_entry r more (redact_entry r few x) ≡ redact_entry r more x
  entry_twice few more in' (Held c) = ap Held (copy_twice few more in' c)
  entry_twice few more in' (Open gap) = refl

  entries_twice : (few more : List E) → NamesMore r few more → (tl : List (Entry E))
      → map (redact_entry r more) (map (redact_entry r few) tl) ≡ map (redact_entry r more) tl
  entries_twice few more in' tl = map-map (redact_entry r more) (redact_entry r few) tl ∙ map-same _ _ (entry_twice few more in') tl

  option_same : (by by' : List E) → NameSame r by by' → (o : Option E) → option_map (redact_by r by) o ≡ option_map (redact_by r by') o
  option_same by by' same None = refl
  option_same by by' same (Some c) = ap Some (copy_same by by' same c)

  option_twice : (few more : List E) → NamesMore r few more → (o : Option E)
      → option_map (redact_by r more) (option_map (redact_by r few) o) ≡ option_map (redact_by r more) o
  option_twice few more in' None = refl
  option_twice few more in' (Some c) = ap Some (copy_twice few more in' c)

  -- redacted copies name what they named
  names_after : (by : List E) (tl : List (Entry E)) → NameSame r (held (map (redact_entry r by) tl)) (held tl)
  names_after by tl p = ap (λ l. is_named r l p) (held-redact r by tl) ∙ is_named-redact r es by (held tl) p is

  -- redactions of the timeline do what some of them did before
  pub absorbs : (by : List E) (room : ClientRoom E K) → NamesMore r by (held room.timeline)
      → room_redacted r (redacted_room r by room) ≡ room_redacted r room
  absorbs by room in' =
      let more : List E = held room.timeline in
      let after : List E = held (map (redact_entry r by) room.timeline) in
      let names : NameSame r after more = names_after by room.timeline in
      let timeline : map (redact_entry r after) (map (redact_entry r by) room.timeline) ≡ map (redact_entry r more) room.timeline =
      map-same _ _ (entry_same after more names) (map (redact_entry r by) room.timeline) ∙ entries_twice by more in' room.timeline in
      let state : (k : K) → option_map (redact_by r after) (option_map (redact_by r by) (room.state k)) ≡ option_map (redact_by r more) (room.state k) =
      λ k. option_same after more names (option_map (redact_by r by) (room.state k)) ∙ option_twice by more in' (room.state k) in
      λ i. record { state = λ k. state k i; timeline = timeline i }

  -- a room agrees but for redactions of its timeline that aren't applied
  pub record Loosely (b t front : ℕ) (room : ClientRoom E K) : Type 0 where
    pub timeline : TimelineAgrees r es t room.timeline
    pub state : StateAgrees r es t (is_owed r b t room.timeline) room.state
    pub held_copies : AllByRecursion (IsDue r es front (λ p. false)) (held room.timeline)
    pub state_copies : (k : K) (c : E) → ◌≡◌ {A = Option E} (room.state k) (Some c) → IsDue r es front (λ p. false) c

  -- and agrees after them
  pub loosely_agrees : (b t front : ℕ) (room : ClientRoom E K) → t ≤ front → Loosely b t front room → RoomAgrees r es b t front (room_redacted r room)
  loosely_agrees b t front room upto loose =
      let tl : List (Entry E) = room.timeline in
      let by : List E = held tl in
      let named : ℕ → Bool = is_named r (held (map (redact_entry r by) tl)) in
      let copies : AllByRecursion (λ c. IsCopy r es c × (r.at c ≤ front)) by =
      AllByRecursion-both (IsCopy r es) (λ c. r.at c ≤ front) by
      (AllByRecursion-weaker (IsDue r es front (λ p. false)) (IsCopy r es) (λ c d. d.copy) by loose.held_copies)
      (AllByRecursion-weaker (λ c. r.at c ≤ t) (λ c. r.at c ≤ front) (λ c h. let h' : r.at c ≤ t = h in omega arith) by
      (held_within r.at t 0 t tl loose.timeline.order)) in
      let redacted : (c : E) → IsDue r es front (λ p. false) c → IsDue r es front named (redact_by r by c) =
      λ c d. due_redact r es by front (λ p. false) named c is copies (names_after by tl) d in
      record {
        timeline = record {
          whole = filled-redact r es by is (pictured r es t) tl ∙ loose.timeline.whole;
          order = Rises-redact r es by is t 0 t tl loose.timeline.order;
        };
        state = state_redact r es t (is_owed r b t tl) (is_owed r b t (map (redact_entry r by) tl)) (redact_by r by) room.state
            (λ c. redact_by-at r es by is c) (λ k v. owed_redact r es by b t tl k v is) loose.state;
        held_copies = subst (AllByRecursion (IsDue r es front named)) (sym (held-redact r by tl))
            (AllByRecursion-map (IsDue r es front named) (redact_by r by) by
            (AllByRecursion-weaker (IsDue r es front (λ p. false)) (λ c. IsDue r es front named (redact_by r by c)) redacted by loose.held_copies));
        state_copies = λ k c. map_some (redact_by r by) (IsDue r es front named) (room.state k) c (λ x h. redacted x (loose.state_copies k x h));
      }

  -- no redaction is asked of a copy
  pub unnamed : (front : ℕ) (named : ℕ → Bool) (c : E) → IsDue r es front named c → IsDue r es front (λ p. false) c
  unnamed front named c due = record { copy = due.copy; redacted = λ h. absurd (false≢true h); plain = due.plain }

  -- a room that agrees does so after the redactions of its timeline
  pub redacted_agrees : (b t front : ℕ) (room : ClientRoom E K) → t ≤ front → RoomAgrees r es b t front room
      → RoomAgrees r es b t front (room_redacted r room)
  redacted_agrees b t front room upto agrees =
      let named : ℕ → Bool = is_named r (held room.timeline) in
      loosely_agrees b t front room upto (record {
        timeline = agrees.timeline;
        state = agrees.state;
        held_copies = AllByRecursion-weaker (IsDue r es front named) (IsDue r es front (λ p. false)) (unnamed front named) (held room.timeline) agrees.held_copies;
        state_copies = λ k c h. unnamed front named c (agrees.state_copies k c h);
      })

  -- rooms that the same redactions make alike
  alike : (room room' : ClientRoom E K) → NameSame r (held room.timeline) (held room'.timeline)
      → map (redact_entry r (held room'.timeline)) room.timeline ≡ map (redact_entry r (held room'.timeline)) room'.timeline
      → ((k : K) → option_map (redact_by r (held room'.timeline)) (room.state k) ≡ option_map (redact_by r (held room'.timeline)) (room'.state k))
      → room_redacted r room ≡ room_redacted r room'
  alike room room' names timeline state =
      let by : List E = held room.timeline in
      let by' : List E = held room'.timeline in
      let first : map (redact_entry r by) room.timeline ≡ map (redact_entry r by') room'.timeline =
      map-same _ _ (entry_same by by' names) room.timeline ∙ timeline in
      let second : (k : K) → option_map (redact_by r by) (room.state k) ≡ option_map (redact_by r by') (room'.state k) =
      λ k. option_same by by' names (room.state k) ∙ state k in
      λ i. record { state = λ k. second k i; timeline = first i }

  -- ---- redactions before a reply's part or a page

  front_alike : (f : Entry E → Entry E) (xs xs' ys : List (Entry E)) → map f xs ≡ map f xs' → map f (xs ++ ys) ≡ map f (xs' ++ ys)
  front_alike f xs xs' ys e = map-append f xs ys ∙ ap (λ l. l ++ map f ys) e ∙ sym (map-append f xs' ys)

  last_alike : (f : E → E) (new old old' : Option E) → option_map f old ≡ option_map f old' → option_map f (option_or new old) ≡ option_map f (option_or new old')
  last_alike f None old old' e = e
  last_alike f (Some c) old old' e = refl

  first_alike : (few more : List E) → NamesMore r few more → (old new : Option E)
      → option_map (redact_by r more) (option_or (option_map (redact_by r few) old) new) ≡ option_map (redact_by r more) (option_or old new)
  first_alike few more in' None new = refl
  first_alike few more in' (Some c) new = ap Some (copy_twice few more in' c)

  pub redacts_part : (after : Bool) (s t : ℕ) (part : Part E) (room : ClientRoom E K)
      → room_redacted r (with_part r after s t part (room_redacted r room)) ≡ room_redacted r (with_part r after s t part room)
  redacts_part after s t part room =
      let by : List E = held room.timeline in
      let gap : List (Entry E) = gap_if part.limited (gap_at s part.cut t) in
      let put : ClientRoom E K → ClientRoom E K = λ had. record {
        state = put_all r (cond after [] part.sent) (put_all r part.state had.state);
        timeline = had.timeline ++ gap ++ map Held part.sent;
      } in
      let more : List E = held (put room).timeline in
      let has_now : (had : ClientRoom E K) (p : ℕ) → is_named r (held (put had).timeline) p ≡ (is_named r (held had.timeline) p || is_named r part.sent p) =
      λ had p. ap (λ l. is_named r l p) (held_reply had.timeline part.limited s part.cut t part.sent) ∙ is_named-append r (held had.timeline) part.sent p in
      let old_in : NamesMore r by more = λ p h. has_now room p ∙ or_left (is_named r by p) (is_named r part.sent p) h in
      let sent_in : (had : ClientRoom E K) → NamesMore r part.sent (held (put had).timeline) =
      λ had p h. has_now had p ∙ or_right (is_named r (held had.timeline) p) (is_named r part.sent p) h in
      absorbs part.sent (put (room_redacted r room)) (sent_in (room_redacted r room))
      ∙ alike (put (room_redacted r room)) (put room)
      (λ p. has_now (room_redacted r room) p ∙ ap (λ b. b || is_named r part.sent p) (names_after by room.timeline p) ∙ sym (has_now room p))
      (front_alike (redact_entry r more) (map (redact_entry r by) room.timeline ++ gap) (room.timeline ++ gap) (map Held part.sent)
      (front_alike (redact_entry r more) (map (redact_entry r by) room.timeline) room.timeline gap (entries_twice by more old_in room.timeline)))
      (λ k. last_alike (redact_by r more) (last_of (has r k) (cond after [] part.sent))
      (put_all r part.state (λ k. option_map (redact_by r by) (room.state k)) k) (put_all r part.state room.state k)
      (last_alike (redact_by r more) (last_of (has r k) part.state) (option_map (redact_by r by) (room.state k)) (room.state k)
      (option_twice by more old_in (room.state k))))
      ∙ sym (absorbs part.sent (put room) (sent_in room))

  -- a page's copies stand among those before and behind them
  pub among : (before new behind : Bool) → (before || behind) ≡ true → ((before || new) || behind) ≡ true
  among true new behind h = refl
  among false true behind h = refl
  among false false behind h = h

  -- whom a timeline names after a page
  pub names_paged : (gap : Gap) (before behind : List (Entry E)) (page : Page E) (p : ℕ)
      → is_named r (held (before ++ gap_if page.more (gap_at gap.lower page.end gap.front) ++ map Held page.sent ++ behind)) p
      ≡ ((is_named r (held before) p || is_named r page.sent p) || is_named r (held behind) p)
  names_paged gap before behind page p =
      ap (λ l. is_named r l p) (held_page before behind page.more gap.lower page.end gap.front page.sent)
      ∙ is_named-append r (held before ++ page.sent) (held behind) p
      ∙ ap (λ b. b || is_named r (held behind) p) (is_named-append r (held before) page.sent p)

  middle : (before new behind : Bool) → new ≡ true → ((before || new) || behind) ≡ true
  middle true new behind h = refl
  middle false true behind h = refl
  middle false false behind h = absurd (false≢true h)

  -- among them those that the page names
  pub page_in : (gap : Gap) (before behind : List (Entry E)) (page : Page E)
      → NamesMore r page.sent (held (before ++ gap_if page.more (gap_at gap.lower page.end gap.front) ++ map Held page.sent ++ behind))
  page_in gap before behind page p h =
      names_paged gap before behind page p ∙ middle (is_named r (held before) p) (is_named r page.sent p) (is_named r (held behind) p) h

  pub redacts_page : (gap : Gap) (before behind : List (Entry E)) (page : Page E) (state : K → Option E) (by : List E)
      → by ≡ held (before ++ Open gap ∷ behind)
      → room_redacted r (with_page r gap (map (redact_entry r by) before) (map (redact_entry r by) behind) page (λ k. option_map (redact_by r by) (state k)))
      ≡ room_redacted r (with_page r gap before behind page state)
  redacts_page gap before behind page state by old =
      let left : List (Entry E) = gap_if page.more (gap_at gap.lower page.end gap.front) in
      let put : List (Entry E) → List (Entry E) → (K → Option E) → ClientRoom E K = λ first rest had. record {
        state = put_new r page.members had;
        timeline = first ++ left ++ map Held page.sent ++ rest;
      } in
      let first : List (Entry E) = map (redact_entry r by) before in
      let rest : List (Entry E) = map (redact_entry r by) behind in
      let had : K → Option E = λ k. option_map (redact_by r by) (state k) in
      let more : List E = held (put before behind state).timeline in
      let old_in : NamesMore r by more = λ p h. names_paged gap before behind page p
      ∙ among (is_named r (held before) p) (is_named r page.sent p) (is_named r (held behind) p)
      (sym (ap (λ l. is_named r l p) (old ∙ held-append before (Open gap ∷ behind)) ∙ is_named-append r (held before) (held behind) p) ∙ h) in
      absorbs page.sent (put first rest had) (page_in gap first rest page)
      ∙ alike (put first rest had) (put before behind state)
      (λ p. names_paged gap first rest page p
      ∙ ap₂ (λ a b. (a || is_named r page.sent p) || b) (names_after by before p) (names_after by behind p)
      ∙ sym (names_paged gap before behind page p))
      (map-append (redact_entry r more) (first ++ left ++ map Held page.sent) rest
      ∙ ap₂ (λ a b. a ++ b) (front_alike (redact_entry r more) (first ++ left) (before ++ left) (map Held page.sent)
      (front_alike (redact_entry r more) first before left (entries_twice by more old_in before))) (entries_twice by more old_in behind)
      ∙ sym (map-append (redact_entry r more) (before ++ left ++ map Held page.sent) behind))
      (λ k. first_alike by more old_in (state k) (last_of (has r k) page.members))
      ∙ sym (absorbs page.sent (put before behind state) (page_in gap before behind page))
