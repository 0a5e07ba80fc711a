-- What is owed after a reply and after a page was owed before, or is told.
use Rattle.std.proofs.Common.{◌≡◌, ℕ, ◌<◌, ◌≤◌, Bool, true, false, not, ◌&&◌, ◌||◌, nat_lt, nat_le, ◌⊎◌, List, [], ◌∷◌, ◌++◌, map, refl, ap, ap₂, sym, ◌∙◌, subst, inl, inr, arith, append-nil, ltb-true, ltb-false, lt-ltb, le-ltb, Some}
use Rattle.std.proofs.lemmas.Bool.{and_parts, and_from, and_right, or_parts, or_left, or_right, or_cases, true≢false, false≢true}
use Rattle.std.specs.List.{list_any}
use Rattle.std.proofs.lemmas.List.Folds.{list_any-append}
use Rattle.mx_window.proofs.Each.{list_any-map, list_any-same}
use Rattle.mx_folding.proofs.Keys.{has_keyed}
use Rattle.mx_folding.specs.Rooms.{Room, IsRoom, key_is, has, wrote, mine}
use Rattle.mx_folding.specs.Redactions.{shown, redact_by}
use Rattle.mx_folding.specs.Parts.{is_sender, is_omitted, picks, picks_new, gap_at}
use Rattle.mx_folding.specs.Clients.{Entry, Held, Open, held, gap_if, redact_entry}
use Rattle.mx_folding.specs.Agreement.{is_gap_before, is_owed}
use Rattle.mx_folding.proofs.Redacting.{redact_by-wrote, shown-wrote}

-- whoever is owed at t, and isn't picked, was owed at s
owed_table : (lazy member mine old new hero omitted stayed_t stayed_s gap : Bool) → (stayed_t ≡ true → stayed_s ≡ true) → (omitted ≡ true → stayed_s ≡ true)
    → (not lazy || (not member || (mine || ((old || new) || (stayed_t || gap))))) ≡ true
    → (lazy && (member && ((new || hero) && not omitted))) ≡ false
    → (not lazy || (not member || (mine || (old || (stayed_s || gap))))) ≡ true
owed_table false m i o n h x t s gap_front p q a b = refl
owed_table true false i o n h x t s gap_front p q a b = refl
owed_table true true true o n h x t s gap_front p q a b = refl
owed_table true true false true n h x t s gap_front p q a b = refl
owed_table true true false false n h x t true gap_front p q a b = refl
owed_table true true false false n h x t false true p q a b = refl
owed_table true true false false n h x true false false p q a b = p refl
owed_table true true false false n h true false false false p q a b = q refl
owed_table true true false false true h false false false false p q a b = absurd (true≢false b)
owed_table true true false false false h false false false false p q a b = a

new_table : (lazy member mine new hero stayed gap : Bool) → (not lazy || (not member || (mine || (new || (stayed || gap))))) ≡ true
    → (not lazy || (not member || (mine || (new || hero)))) ≡ false → (stayed || gap) ≡ true
new_table false m i n h s gap_front a b = absurd (true≢false b)
new_table true false i n h s gap_front a b = absurd (true≢false b)
new_table true true true n h s gap_front a b = absurd (true≢false b)
new_table true true false true h s gap_front a b = absurd (true≢false b)
new_table true true false false h s gap_front a b = a

page_table : (lazy member mine first last new stayed gap gap' : Bool) → (gap' ≡ true → gap ≡ true)
    → (not lazy || (not member || (mine || (((first || new) || last) || (stayed || gap'))))) ≡ true
    → ((not lazy || (not member || (mine || ((first || last) || (stayed || gap))))) ≡ true) ⊎ ((lazy && (member && new)) ≡ true)
page_table false m i f l n s gap_front h p a = inl refl
page_table true false i f l n s gap_front h p a = inl refl
page_table true true true f l n s gap_front h p a = inl refl
page_table true true false true l n s gap_front h p a = inl refl
page_table true true false false true n s gap_front h p a = inl refl
page_table true true false false false n true gap_front h p a = inl refl
page_table true true false false false n false true h p a = inl refl
page_table true true false false false true false false h p a = inr refl
page_table true true false false false false false false true p a = inl (p refl)
page_table true true false false false false false false false p a = inl a

late_table : (lazy member mine sender stayed : Bool) → (not lazy || (not member || (mine || (sender || (stayed || true))))) ≡ true
late_table false m i s t = refl
late_table true false i s t = refl
late_table true true true s t = refl
late_table true true false true t = refl
late_table true true false false true = refl
late_table true true false false false = refl

pub held-append : {C : Type 0} (xs ys : List (Entry C)) → held (xs ++ ys) ≡ held xs ++ held ys
held-append [] ys = refl
held-append (Held c ∷ xs) ys = ap (λ l. c ∷ l) (held-append xs ys)
held-append (Open gap ∷ xs) ys = held-append xs ys

pub held-held : {C : Type 0} (cs : List C) → held (map Held cs) ≡ cs
held-held [] = refl
held-held (c ∷ cs) = ap (λ l. c ∷ l) (held-held cs)

pub held-gap : {C : Type 0} (open_still : Bool) (low high front : ℕ) → held {C = C} (gap_if open_still (gap_at low high front)) ≡ []
held-gap true low high front = refl
held-gap false low high front = refl

pub held-redact : {E K : Type 0} (r : Room E K) (by : List E) (tl : List (Entry E)) → held (map (redact_entry r by) tl) ≡ map (redact_by r by) (held tl)
held-redact r by [] = refl
held-redact r by (Held c ∷ tl) = ap (λ l. redact_by r by c ∷ l) (held-redact r by tl)
held-redact r by (Open gap ∷ tl) = held-redact r by tl

-- the copies of a timeline after a reply
pub held_reply : {C : Type 0} (tl : List (Entry C)) (limited : Bool) (low q t : ℕ) (sent : List C)
    → held (tl ++ gap_if limited (gap_at low q t) ++ map Held sent) ≡ held tl ++ sent
held_reply tl limited low q t sent =
    held-append (tl ++ gap_if limited (gap_at low q t)) (map Held sent)
    ∙ ap₂ (λ a b. a ++ b) (held-append tl (gap_if limited (gap_at low q t)) ∙ ap (λ a. held tl ++ a) (held-gap limited low q t)
    ∙ append-nil (held tl)) (held-held sent)

pub gap-append : {C : Type 0} (p : ℕ) (xs ys : List (Entry C)) → list_any (is_gap_before p) (xs ++ ys)
    ≡ (list_any (is_gap_before p) xs || list_any (is_gap_before p) ys)
gap-append p xs ys = list_any-append (is_gap_before p) xs ys

pub gap-held : {C : Type 0} (p : ℕ) (cs : List C) → list_any (is_gap_before p) (map Held cs) ≡ false
gap-held p [] = refl
gap-held p (c ∷ cs) = gap-held p cs

gap-gap : (C : Type 0) (p : ℕ) (open_still : Bool) (low high front : ℕ) → list_any (is_gap_before {C = C} p) (gap_if open_still (gap_at low high front))
    ≡ (open_still && nat_lt front p)
gap-gap C p true low high front = drop_false (nat_lt front p) where
  drop_false : (b : Bool) → (b || false) ≡ b
  drop_false true = refl
  drop_false false = refl
gap-gap C p false low high front = refl

gap_reply : {C : Type 0} (p : ℕ) (tl : List (Entry C)) (limited : Bool) (low q t : ℕ) (sent : List C) → p ≤ t
    → list_any (is_gap_before p) (tl ++ gap_if limited (gap_at low q t) ++ map Held sent) ≡ list_any (is_gap_before p) tl
gap_reply {C = C} p tl limited low q t sent h =
    gap-append p (tl ++ gap_if limited (gap_at low q t)) (map Held sent)
    ∙ ap₂ (λ a b. a || b) (gap-append p tl (gap_if limited (gap_at low q t))
    ∙ ap (λ b. list_any (is_gap_before p) tl || b) (gap-gap C p limited low q t ∙ and_right limited (nat_lt t p) (le-ltb t p h))) (gap-held p sent)
    ∙ drop_false (list_any (is_gap_before p) tl) where
      drop_false : (b : Bool) → ((b || false) || false) ≡ b
      drop_false true = refl
      drop_false false = refl

pub is_sender-append : {E K : Type 0} (r : Room E K) (k : K) (xs ys : List E) → is_sender r (xs ++ ys) k ≡ (is_sender r xs k || is_sender r ys k)
is_sender-append r k xs ys = list_any-append (wrote r k) xs ys

pub is_sender-shown : {E K : Type 0} (r : Room E K) (es : List E) (front : ℕ) (k : K) (xs : List E) → IsRoom r es
    → is_sender r (map (shown r es front) xs) k ≡ is_sender r xs k
is_sender-shown r es front k xs room =
    list_any-map (wrote r k) (shown r es front) xs ∙ list_any-same (λ e. wrote r k (shown r es front e)) (wrote r k) (λ e. shown-wrote r es room front k e) xs

is_sender-redact : {E K : Type 0} (r : Room E K) (es by : List E) (k : K) (xs : List E) → IsRoom r es
    → is_sender r (map (redact_by r by) xs) k ≡ is_sender r xs k
is_sender-redact r es by k xs room =
    list_any-map (wrote r k) (redact_by r by) xs ∙ list_any-same (λ e. wrote r k (redact_by r by e)) (wrote r k) (λ e. redact_by-wrote r es by room k e) xs

gap-redact : {E K : Type 0} (r : Room E K) (by : List E) (p : ℕ) (tl : List (Entry E))
    → list_any (is_gap_before p) (map (redact_entry r by) tl) ≡ list_any (is_gap_before p) tl
gap-redact r by p [] = refl
gap-redact r by p (Held c ∷ tl) = gap-redact r by p tl
gap-redact r by p (Open gap ∷ tl) = ap (λ b. nat_lt gap.front p || b) (gap-redact r by p tl)

-- what is owed, from the senders and the gaps of a timeline
abbrev owed_by : {E K : Type 0} → Room E K → ℕ → ℕ → K → E → Bool → Bool → Bool
owed_by r b t k v sender gap = not r.lazy || (not (r.member k) || (mine r k || (sender || ((r.stayed b t && nat_lt b (r.at v)) || gap))))

-- redactions change nothing of what is owed
pub owed_redact : {E K : Type 0} (r : Room E K) (es by : List E) (b t : ℕ) (tl : List (Entry E)) (k : K) (v : E) → IsRoom r es
    → is_owed r b t (map (redact_entry r by) tl) k v ≡ is_owed r b t tl k v
owed_redact r es by b t tl k v room =
    ap₂ (owed_by r b t k v) (ap (λ l. is_sender r l k) (held-redact r by tl) ∙ is_sender-redact r es by k (held tl) room) (gap-redact r by (r.at v) tl)

-- with no copies and no gap before a position, what is owed there
stayed_before : {E K : Type 0} (r : Room E K) (es : List E) (b s t : ℕ) (v : E) → IsRoom r es → s ≤ t → r.at v ≤ s
    → (r.stayed b t && nat_lt b (r.at v)) ≡ true → (r.stayed b s && nat_lt b (r.at v)) ≡ true
stayed_before r es b s t v room up upto h =
    let parts = and_parts (r.stayed b t) (nat_lt b (r.at v)) h in
    let after : b < r.at v = ltb-true b (r.at v) parts.1 in
    and_from (r.stayed b s) (nat_lt b (r.at v)) (room.stayed_less b s t (omega arith) up parts.0) parts.1

-- what is owed after a reply and isn't picked lies at or before its token, and was owed before
pub owed_reply : {E K : Type 0} (r : Room E K) (es : List E) (limited : Bool) (from b s q t : ℕ) (redundant : Bool) (heroes : K
    → Bool) (sent : List E) (tl : List (Entry E)) (k : K) (v : E) → IsRoom r es
    → from ≤ s → s ≤ t → has r k v ≡ true
    → is_owed r b t (tl ++ gap_if limited (gap_at s q t) ++ map Held (map (shown r es t) sent)) k v ≡ true → picks r redundant b s from heroes sent v ≡ false
    → (r.at v ≤ s) × (is_owed r b s tl k v ≡ true)
owed_reply r es limited from b s q t redundant heroes sent tl k v room first up has owes unpicked =
    let parts =
    or_parts (nat_lt from (r.at v)) (r.lazy
    && (key_is r.member (r.key v)
    && ((key_is (is_sender r sent) (r.key v) || key_is heroes (r.key v)) && not (is_omitted r redundant b s v)))) unpicked in
    let upto : r.at v ≤ from = ltb-false from (r.at v) parts.0 in
    let key : r.key v ≡ Some k = has_keyed r es room k v has in
    let senders : is_sender r (held (tl ++ gap_if limited (gap_at s q t) ++ map Held (map (shown r es t) sent))) k
    ≡ (is_sender r (held tl) k || is_sender r sent k) =
    ap (λ l. is_sender r l k) (held_reply tl limited s q t (map (shown r es t) sent)) ∙ is_sender-append r k (held tl) (map (shown r es t) sent)
    ∙ ap (λ x. is_sender r (held tl) k || x) (is_sender-shown r es t k sent room) in
    let gaps = gap_reply (r.at v) tl limited s q t (map (shown r es t) sent) (omega arith) in
    let owes' : owed_by r b t k v (is_sender r (held tl) k || is_sender r sent k) (list_any (is_gap_before (r.at v)) tl) ≡ true =
    sym (ap₂ (owed_by r b t k v) senders gaps) ∙ owes in
    let unpicked' : (r.lazy && (r.member k && ((is_sender r sent k || heroes k) && not (is_omitted r redundant b s v)))) ≡ false =
    subst (λ x. (r.lazy && (key_is r.member x && ((key_is (is_sender r sent) x || key_is heroes x) && not (is_omitted r redundant b s v))))
    ≡ false) key parts.1 in (
      omega arith,
      owed_table r.lazy (r.member k) (mine r k) (is_sender r (held tl) k) (is_sender r sent k) (heroes k) (is_omitted r redundant b s v) (r.stayed b t
          && nat_lt b (r.at v)) (r.stayed b s && nat_lt b (r.at v))
          (list_any (is_gap_before (r.at v)) tl)
          (stayed_before r es b s t v room up (omega arith))
          (λ o. (and_parts (nat_le (r.at v) s) (r.stayed b s
          && nat_lt b (r.at v)) (and_parts (not redundant) (nat_le (r.at v) s && (r.stayed b s && nat_lt b (r.at v))) o).1).1)
          owes' unpicked',
    )

-- what is owed after a new room's part is picked
pub owed_new : {E K : Type 0} (r : Room E K) (es : List E) (limited : Bool) (b q t : ℕ) (heroes : K → Bool) (sent : List E) (k : K) (v : E)
    → IsRoom r es → (r.stayed b t ≡ true → t ≤ b)
    → has r k v ≡ true → r.at v ≤ t
    → is_owed r b t (gap_if limited (gap_at 0 q t) ++ map Held (map (shown r es t) sent)) k v ≡ true → picks_new r heroes sent v ≡ false → ⊥
owed_new r es limited b q t heroes sent k v room vacuous has upto owes unpicked =
    let key : r.key v ≡ Some k = has_keyed r es room k v has in
    let senders : is_sender r (held (gap_if limited (gap_at 0 q t) ++ map Held (map (shown r es t) sent))) k ≡ is_sender r sent k =
    ap (λ l. is_sender r l k) (held_reply [] limited 0 q t (map (shown r es t) sent)) ∙ is_sender-shown r es t k sent room in
    let gaps : list_any (is_gap_before (r.at v)) (gap_if limited (gap_at 0 q t) ++ map Held (map (shown r es t) sent)) ≡ false =
    gap_reply (r.at v) [] limited 0 q t (map (shown r es t) sent) upto in
    let owes' : owed_by r b t k v (is_sender r sent k) false ≡ true = sym (ap₂ (owed_by r b t k v) senders gaps) ∙ owes in
    let unpicked' : (not r.lazy || (not (r.member k) || (mine r k || (is_sender r sent k || heroes k)))) ≡ false =
    subst (λ x. (not r.lazy || (not (key_is r.member x) || (key_is (mine r) x || (key_is (is_sender r sent) x || key_is heroes x)))) ≡ false) key unpicked in
    let left : ((r.stayed b t && nat_lt b (r.at v)) || false) ≡ true =
    new_table r.lazy (r.member k) (mine r k) (is_sender r sent k) (heroes k) (r.stayed b t && nat_lt b (r.at v)) false owes' unpicked' in
    elim (or_cases (r.stayed b t && nat_lt b (r.at v)) false left) [
      | inl a ↦ let parts = and_parts (r.stayed b t) (nat_lt b (r.at v)) a in let l : t ≤ b = vacuous parts.0 in
          let m : b < r.at v = ltb-true b (r.at v) parts.1 in absurd (omega arith)
      | inr a ↦ absurd (false≢true a)
    ]

-- what came after the front of an open gap is owed
pub owed_late : {E K : Type 0} (r : Room E K) (b t lower upper gap_front : ℕ) (before behind : List (Entry E)) (k : K) (v : E) → gap_front < r.at v
    → is_owed r b t (before ++ Open (gap_at lower upper gap_front) ∷ behind) k v ≡ true
owed_late r b t lower upper gap_front before behind k v h =
    let gap : list_any (is_gap_before (r.at v)) (before ++ Open (gap_at lower upper gap_front) ∷ behind) ≡ true =
    gap-append (r.at v) before (Open (gap_at lower upper gap_front) ∷ behind)
    ∙ or_right (list_any (is_gap_before (r.at v)) before) (nat_lt gap_front (r.at v)
    || list_any (is_gap_before (r.at v)) behind)
    (or_left (nat_lt gap_front (r.at v)) (list_any (is_gap_before (r.at v)) behind) (lt-ltb gap_front (r.at v) h)) in
    ap (owed_by r b t k v (is_sender r (held (before ++ Open (gap_at lower upper gap_front) ∷ behind)) k)) gap
    ∙ late_table r.lazy (r.member k) (mine r k) (is_sender r (held (before ++ Open (gap_at lower upper gap_front) ∷ behind)) k) (r.stayed b t
    && nat_lt b (r.at v))

pub held_page : {C : Type 0} (before behind : List (Entry C)) (more : Bool) (low mid gap_front : ℕ) (sent : List C)
    → held (before ++ gap_if more (gap_at low mid gap_front) ++ map Held sent ++ behind) ≡ held before ++ sent ++ held behind
held_page before behind more low mid gap_front sent =
    held-append (before ++ gap_if more (gap_at low mid gap_front) ++ map Held sent) behind
    ∙ ap (λ l. l ++ held behind) (held_reply before more low mid gap_front sent)

gap_table : (x y more n : Bool) → (((x || (more && n)) || false) || y) ≡ true → (x || (n || y)) ≡ true
gap_table true y more n e = refl
gap_table false y more true e = refl
gap_table false true more false e = refl
gap_table false false true false e = e
gap_table false false false false e = e

gap_page : {C : Type 0} (p : ℕ) (before behind : List (Entry C)) (more : Bool) (low mid upper gap_front : ℕ) (sent : List C)
    → list_any (is_gap_before p) (before ++ gap_if more (gap_at low mid gap_front) ++ map Held sent ++ behind) ≡ true
    → list_any (is_gap_before p) (before ++ Open (gap_at low upper gap_front) ∷ behind) ≡ true
gap_page {C = C} p before behind more low mid upper gap_front sent h =
    let joined : list_any (is_gap_before p) (before ++ gap_if more (gap_at low mid gap_front) ++ map Held sent ++ behind)
    ≡ (((list_any (is_gap_before p) before || (more && nat_lt gap_front p)) || false) || list_any (is_gap_before p) behind) =
    gap-append p (before ++ gap_if more (gap_at low mid gap_front) ++ map Held sent) behind
    ∙ ap (λ x. x || list_any (is_gap_before p) behind) (gap-append p (before ++ gap_if more (gap_at low mid gap_front)) (map Held sent)
    ∙ ap₂ (λ a b. a || b) (gap-append p before (gap_if more (gap_at low mid gap_front))
    ∙ ap (λ x. list_any (is_gap_before p) before || x) (gap-gap C p more low mid gap_front)) (gap-held p sent)) in
    gap-append p before (Open (gap_at low upper gap_front) ∷ behind)
    ∙ gap_table (list_any (is_gap_before p) before) (list_any (is_gap_before p) behind) more (nat_lt gap_front p) (sym joined ∙ h)

-- what is owed after a page was owed before, or is a member that the page sends
pub owed_page : {E K : Type 0} (r : Room E K) (es : List E) (front b t low mid upper gap_front : ℕ) (more : Bool) (sent : List E)
    (before behind : List (Entry E)) (k : K) (v : E) → IsRoom r es → has r k v ≡ true
    → is_owed r b t (before ++ gap_if more (gap_at low mid gap_front) ++ map Held (map (shown r es front) sent) ++ behind) k v ≡ true
    → (is_owed r b t (before ++ Open (gap_at low upper gap_front) ∷ behind) k v ≡ true)
    ⊎ ((r.lazy && (key_is r.member (r.key v) && key_is (is_sender r sent) (r.key v))) ≡ true)
owed_page r es front b t low mid upper gap_front more sent before behind k v room has owes =
    let key : r.key v ≡ Some k = has_keyed r es room k v has in
    let senders : is_sender r (held (before ++ gap_if more (gap_at low mid gap_front) ++ map Held (map (shown r es front) sent) ++ behind)) k
    ≡ ((is_sender r (held before) k || is_sender r sent k) || is_sender r (held behind) k) =
    ap (λ l. is_sender r l k) (held_page before behind more low mid gap_front (map (shown r es front) sent))
    ∙ is_sender-append r k (held before ++ map (shown r es front) sent) (held behind)
    ∙ ap (λ x. x || is_sender r (held behind) k) (is_sender-append r k (held before) (map (shown r es front) sent)
    ∙ ap (λ x. is_sender r (held before) k || x) (is_sender-shown r es front k sent room)) in
    let olds : is_sender r (held (before ++ Open (gap_at low upper gap_front) ∷ behind)) k ≡ (is_sender r (held before) k || is_sender r (held behind) k) =
    ap (λ l. is_sender r l k) (held-append before (Open (gap_at low upper gap_front) ∷ behind)) ∙ is_sender-append r k (held before) (held behind) in
    let new_gap : Bool =
    list_any (is_gap_before (r.at v)) (before ++ gap_if more (gap_at low mid gap_front) ++ map Held (map (shown r es front) sent) ++ behind) in
    let old_gap : Bool = list_any (is_gap_before (r.at v)) (before ++ Open (gap_at low upper gap_front) ∷ behind) in
    let owes' : owed_by r b t k v ((is_sender r (held before) k || is_sender r sent k) || is_sender r (held behind) k) new_gap ≡ true =
    sym (ap (λ x. owed_by r b t k v x new_gap) senders) ∙ owes in
    elim (page_table r.lazy (r.member k) (mine r k) (is_sender r (held before) k) (is_sender r (held behind) k) (is_sender r sent k) (r.stayed b t
    && nat_lt b (r.at v)) old_gap new_gap
    (gap_page (r.at v) before behind more low mid upper gap_front (map (shown r es front) sent)) owes') [
      | inl a ↦ inl (ap (λ x. owed_by r b t k v x old_gap) olds ∙ a)
      | inr a ↦ inr (subst (λ x. (r.lazy && (key_is r.member x && key_is (is_sender r sent) x)) ≡ true) (sym key) a)
    ]
