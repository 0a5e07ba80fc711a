-- What a reply sends of a room, and the room after it.
use Rattle.std.proofs.Common.{◌≡◌, ℕ, ◌<◌, ◌≤◌, Bool, true, false, cond, not, ◌&&◌, ◌||◌, nat_lt, nat_le, List, [], ◌∷◌, ◌++◌, map, Option, Some, None, option_map, filter, refl, ap, sym, ◌∙◌, subst, arith, lt-ltb}
use Rattle.std.proofs.lemmas.Bool.{or_left, false≢true}
use Rattle.std.specs.List.{AllByRecursion, Contains}
use Rattle.std.specs.Option.{option_or}
use Rattle.mx_window.specs.Windows.{Ascends, between}
use Rattle.mx_window.specs.Lasts.{last_of, current}
use Rattle.mx_window.proofs.Each.{AllByRecursion-map, AllByRecursion-append, AllByRecursion-weaker, AllByRecursion-both, AllByRecursion-filter, AllByRecursion-contained}
use Rattle.mx_window.proofs.Intervals.{between-empty}
use Rattle.mx_window.proofs.Lasts.{last_of-some, AllByRecursion-current}
use Rattle.mx_folding.specs.Rooms.{Room, IsRoom, StaysSent, key_is, is_state, is_kept, has, sets_same}
use Rattle.mx_folding.specs.Sections.{sendable, section, cut, is_limited, window}
use Rattle.mx_folding.specs.Redactions.{is_named, is_redacted, shown, redact_by}
use Rattle.mx_folding.specs.Parts.{is_sender, state_list, state_part, is_omitted, picks, picks_new, part_of, gap_at}
use Rattle.mx_folding.specs.Clients.{Entry, Held, Open, held, ClientRoom, empty_room, put_all, gap_if, redact_entry, with_part}
use Rattle.mx_folding.specs.Agreement.{pictured, Rises, TimelineAgrees, StateAgrees, is_owed, IsCopy, IsDue, RoomAgrees}
use Rattle.mx_folding.proofs.Redacting.{redact_by-at}
use Rattle.mx_folding.proofs.Timelines.{filled-redact, Rises-order, Rises-redact, timeline_reply}
use Rattle.mx_folding.proofs.Cuts.{Sent, section_sent, no_break, shown_positions, sendable_ascends, sendable_within, shown_ascends, shown_within}
use Rattle.mx_folding.proofs.States.{shown_last, part_last, section_last, state_reply, state_redact}
use Rattle.mx_folding.proofs.Copies.{named_redacted, due_later, due_redact, sent_copies, sent_due, is_named-append, is_named-redact}
use Rattle.mx_folding.proofs.Owed.{held-redact, held_reply, owed_redact, owed_reply, owed_new}
use Rattle.mx_folding.specs.Laws.{FoldsReply, FoldsNew}

contained_window : {E K : Type 0} (r : Room E K) (es : List E) (low high : ℕ) → AllByRecursion (Contains es) (between r.at low high es)
contained_window r es low high = AllByRecursion-filter (Contains es) (λ e. nat_lt low (r.at e) && nat_le (r.at e) high) es (AllByRecursion-contained es)

pub contained_sendable : {E K : Type 0} (r : Room E K) (es : List E) (front low high : ℕ) → AllByRecursion (Contains es) (sendable r es front low high)
contained_sendable r es front low high = AllByRecursion-filter (Contains es) (r.sends front) (between r.at low high es) (contained_window r es low high)

pub contained_state : {E K : Type 0} (r : Room E K) (es : List E) (p : ℕ) → AllByRecursion (Contains es) (state_list r es p)
contained_state r es p =
    AllByRecursion-filter (Contains es) (is_state r) (current (sets_same r) (between r.at 0 p es))
    (AllByRecursion-current (Contains es) (sets_same r) (between r.at 0 p es) (contained_window r es 0 p))

contained_part : {E K : Type 0} (r : Room E K) (es : List E) (pick : E → Bool) (p : ℕ) → AllByRecursion (Contains es) (state_part r es pick p)
contained_part r es pick p =
    AllByRecursion-filter (Contains es) pick (filter (is_kept r) (state_list r es p))
    (AllByRecursion-filter (Contains es) (is_kept r) (state_list r es p) (contained_state r es p))

pub held_within : {C : Type 0} (at : C → ℕ) (t low high : ℕ) (tl : List (Entry C)) → Rises at t low high tl → AllByRecursion (λ c. at c ≤ high) (held tl)
held_within at t low high [] h = tt
held_within at t low high (Held c ∷ tl) h = (Rises-order at t (at c) high tl h.1, held_within at t (at c) high tl h.1)
held_within at t low high (Open gap ∷ tl) h = held_within at t gap.upper high tl h.3

-- whom the timeline names is redacted by a front that its copies lie at or before
pub named_early : {E K : Type 0} (r : Room E K) (es : List E) (front s t : ℕ) (named : ℕ → Bool) (tl : List (Entry E)) → IsRoom r es
    → s ≤ t → Rises r.at s 0 s tl → AllByRecursion (IsDue r es front named) (held tl)
    → (v : E) → is_named r (held tl) (r.at v) ≡ true → is_redacted r es t v ≡ true
named_early r es front s t named tl room up order copies v is =
    named_redacted r es t v (held tl) room
    (AllByRecursion-both (IsCopy r es) (λ c. r.at c ≤ t) (held tl)
    (AllByRecursion-weaker (IsDue r es front named) (IsCopy r es) (λ c d. d.copy) (held tl) copies)
    (AllByRecursion-weaker (λ c. r.at c ≤ s) (λ c. r.at c ≤ t) (λ c h. let h' : r.at c ≤ s = h in omega arith) (held tl) (held_within r.at s 0 s tl order))) is

pub map_some : {E : Type 0} (f : E → E) (P : E → Type 0) (o : Option E) (c : E) → ((x : E) → ◌≡◌ {A = Option E} o (Some x) → P (f x))
    → ◌≡◌ {A = Option E} (option_map f o) (Some c) → P c
map_some f P None c h e = absurd (cc (e))
map_some f P (Some x) c h e = let same : f x ≡ c = cc (e) in subst P same (h x refl)

pub or_some : {E : Type 0} (P : E → Type 0) (a b : Option E) (c : E) → ((x : E) → ◌≡◌ {A = Option E} a (Some x) → P x)
    → ((x : E) → ◌≡◌ {A = Option E} b (Some x) → P x) → ◌≡◌ {A = Option E} (option_or a b) (Some c) → P c
or_some P None b c h k e = k c e
or_some P (Some x) b c h k e = h c e

cut_between : {E K : Type 0} (r : Room E K) (es : List E) (after : Bool) (q s t : ℕ) → s ≤ q → q ≤ t → (s ≤ cond after t q) × (cond after t q ≤ t)
cut_between r es true q s t h k = (omega arith, omega arith)
cut_between r es false q s t h k = (h, k)

-- what the client puts of the section is the last after the state part's position
reply_puts : {E K : Type 0} (r : Room E K) (es : List E) (after : Bool) (limit s t : ℕ) (k : K) → IsRoom r es → s ≤ t
    → ◌≡◌ {A = Option E} (last_of (has r k) (cond after [] (map (shown r es t) (section r es t (window after limit s t)))))
    (option_map (shown r es t) (last_of (has r k) (between r.at (cond after t (cut r es t (window after limit s t))) t es)))
reply_puts r es true limit s t k room up = ap (λ l. option_map (shown r es t) (last_of (has r k) l)) (sym (between-empty r.at t t es (omega arith)))
reply_puts r es false limit s t k room up =
    let q : ℕ = cut r es t (window false limit s t) in
    shown_last r es t k (section r es t (window false limit s t)) room
    ∙ ap (option_map (shown r es t)) (ap (last_of (has r k)) (section_sent r es false limit t s t room up).is
    ∙ section_last r es t q t k room (no_break r es limit t s t room up))

puts_due : {E : Type 0} (P : E → Type 0) (after : Bool) (xs : List E) → AllByRecursion P xs → AllByRecursion P (cond after [] xs)
puts_due P true xs h = tt
puts_due P false xs h = h

-- the room after a part whose state part is picked so that what is held and has changed is sent, and what is owed and isn't sent was owed
pub folds_part : {E K : Type 0} (r : Room E K) (es : List E) (after : Bool) (limit s t front front' b : ℕ) (pick : List E → E
    → Bool) (owed : K → E → Bool) (room : ClientRoom E K) → IsRoom r es → StaysSent r es s
    → s ≤ t → front ≤ front' → t ≤ front'
    → ((k : K) (x h : E) → s < r.at x → ◌≡◌ {A = Option E} (room.state k) (Some h) → pick (section r es t (window after limit s t)) x ≡ true)
    → ((k : K) (v : E) → has r k v ≡ true
    → is_owed r b t (room.timeline ++ gap_if (is_limited r es t (window after limit s t)) (gap_at s (cut r es t (window after limit s t)) t)
    ++ map Held (map (shown r es t) (section r es t (window after limit s t)))) k v ≡ true
    → pick (section r es t (window after limit s t)) v ≡ false → r.at v ≤ t → (r.at v ≤ s) × (owed k v ≡ true))
    → TimelineAgrees r es s room.timeline → StateAgrees r es s owed room.state
    → AllByRecursion (IsDue r es front (is_named r (held room.timeline))) (held room.timeline)
    → ((k : K) (c : E) → ◌≡◌ {A = Option E} (room.state k) (Some c) → IsDue r es front (is_named r (held room.timeline)) c)
    → RoomAgrees r es b t front' (with_part r after s t (part_of r es t (window after limit s t) pick) room)
folds_part {E = E} r es after limit s t front front' b pick owed room is stays up later upto first second timeline state held_due state_due =
    let sec : List E = section r es t (window after limit s t) in
    let q : ℕ = cut r es t (window after limit s t) in
    let more : Bool = is_limited r es t (window after limit s t) in
    let sent : List E = map (shown r es t) sec in
    let z : ℕ = cond after t q in
    let part : List E = map (shown r es t) (state_part r es (pick sec) z) in
    let puts : List E = cond after [] sent in
    let tl : List (Entry E) = room.timeline ++ gap_if more (gap_at s q t) ++ map Held sent in
    let named : ℕ → Bool = is_named r (held room.timeline) in
    let named' : ℕ → Bool = is_named r (held (map (redact_entry r sent) tl)) in
    let facts : Sent r es t s t q sec more = section_sent r es after limit t s t is up in
    let bounds = cut_between r es after q s t facts.low_q facts.q_high in
    let in_sec : AllByRecursion (Contains es) sec = subst (AllByRecursion (Contains es)) (sym facts.is) (contained_sendable r es t q t) in
    let rises : Ascends r.at q sec = subst (Ascends r.at q) (sym facts.is) (sendable_ascends r es t q t is) in
    let within : AllByRecursion (λ e. r.at e ≤ t) sec = subst (AllByRecursion (λ e. r.at e ≤ t)) (sym facts.is) (sendable_within r es t q t) in
    let agrees : TimelineAgrees r es t tl = timeline_reply r es s t q more sent room.timeline is stays facts.low_q facts.q_high
    (shown_positions r es t sec is ∙ ap (map r.at) facts.is) (shown_ascends r es t q sec is rises) (shown_within r es t t sec is within)
    (λ n. ap (map r.at) (facts.none n)) timeline in
    let copies : held (map (redact_entry r sent) tl) ≡ map (redact_by r sent) (held room.timeline ++ sent) =
    held-redact r sent tl ∙ ap (map (redact_by r sent)) (held_reply room.timeline more s q t sent) in
    let joined : (p : ℕ) → named' p ≡ (named p || is_named r sent p) =
    λ p. ap (λ l. is_named r l p) copies ∙ is_named-redact r es sent (held room.timeline ++ sent) p is ∙ is_named-append r (held room.timeline) sent p in
    let early : (v : E) → named (r.at v) ≡ true → is_redacted r es t v ≡ true = named_early r es front s t named room.timeline is up timeline.order held_due in
    let due : (xs : List E) → AllByRecursion (Contains es) xs → AllByRecursion (IsDue r es front' named) (map (shown r es t) xs) =
    λ xs h. sent_due r es t front' named xs upto h early in
    let by : AllByRecursion (λ c. IsCopy r es c × (r.at c ≤ front')) sent =
    sent_copies r es t front' sec is in_sec
    (AllByRecursion-weaker (λ e. r.at e ≤ t) (λ e. r.at e ≤ front') (λ e h. let h' : r.at e ≤ t = h in omega arith) sec within) in
    let redacted : (c : E) → IsDue r es front' named c → IsDue r es front' named' (redact_by r sent c) =
    λ c d. due_redact r es sent front' named named' c is by joined d in
    record {
      timeline = record { whole = filled-redact r es sent is (pictured r es t) tl ∙ agrees.whole; order = Rises-redact r es sent is t 0 t tl agrees.order };
      state =
          state_redact r es t (is_owed r b t tl) (is_owed r b t (map (redact_entry r sent) tl)) (redact_by r sent)
          (put_all r puts (put_all r part room.state)) (λ c. redact_by-at r es sent is c)
          (λ k v. owed_redact r es sent b t tl k v is)
          (state_reply r es s z t t (pick sec) part puts owed (is_owed r b t tl) room.state is bounds.0 bounds.1
          (λ k. reply_puts r es after limit s t k is up)
          (λ k. shown_last r es t k (state_part r es (pick sec) z) is ∙ ap (option_map (shown r es t)) (part_last r es (pick sec) z k is))
          first second state);
      held_copies = subst (AllByRecursion (IsDue r es front' named')) (sym copies)
          (AllByRecursion-map (IsDue r es front' named') (redact_by r sent) (held room.timeline ++ sent)
          (AllByRecursion-weaker (IsDue r es front' named) (λ c. IsDue r es front' named' (redact_by r sent c)) redacted (held room.timeline ++ sent)
          (AllByRecursion-append (IsDue r es front' named) (held room.timeline) sent
          (AllByRecursion-weaker (IsDue r es front named) (IsDue r es front' named) (λ c d. due_later r es front front' named c later d)
          (held room.timeline) held_due) (due sec in_sec))));
      state_copies = λ k c. map_some (redact_by r sent) (IsDue r es front' named') (put_all r puts (put_all r part room.state) k) c
          (λ x e. redacted x (or_some (IsDue r es front' named) (last_of (has r k) puts) (put_all r part room.state k) x
          (λ y f. (last_of-some (IsDue r es front' named) (has r k) puts y (puts_due (IsDue r es front' named) after sent (due sec in_sec)) f).1)
          (λ y f. or_some (IsDue r es front' named) (last_of (has r k) part) (room.state k) y
          (λ w g. (last_of-some (IsDue r es front' named) (has r k) part w (due (state_part r es (pick sec) z) (contained_part r es (pick sec) z)) g).1)
          (λ w g. due_later r es front front' named w later (state_due k w g)) f) e));
    }

-- a room after a later reply's part
pub folds_reply : {E K : Type 0} → FoldsReply E K
folds_reply {E = E} {K = K} r es is after limit from s t front front' b redundant heroes room stays first up later upto agrees =
    let sec : List E = section r es t (window after limit s t) in
    folds_part r es after limit s t front front' b (picks r redundant b s from heroes) (is_owed r b s room.timeline) room is stays up later upto
    (λ k x h new there. or_left (nat_lt from (r.at x)) (r.lazy
    && (key_is r.member (r.key x) && ((key_is (is_sender r sec) (r.key x) || key_is heroes (r.key x)) && not (is_omitted r redundant b s x))))
    (lt-ltb from (r.at x) (omega arith)))
    (λ k v has owes unpicked within. owed_reply r es (is_limited r es t (window after limit s t)) from b s
    (cut r es t (window after limit s t)) t redundant heroes sec room.timeline k v is first up has owes unpicked)
    agrees.timeline agrees.state agrees.held_copies agrees.state_copies

-- an empty room after a new room's part
pub folds_new : {E K : Type 0} → FoldsNew E K
folds_new {E = E} {K = K} r es is after limit t front b heroes upto vacuous =
    let sec : List E = section r es t (window after limit 0 t) in
    let none : between r.at 0 0 es ≡ [] = between-empty r.at 0 0 es (omega arith) in
    folds_part r es after limit 0 t 0 front b (picks_new r heroes) (λ k v. false) (empty_room E K) is
    (λ t' h. subst (AllByRecursion (λ e. r.sends t' e ≡ r.sends 0 e)) (sym none) tt) (omega arith) (omega arith) upto
    (λ k x h new there. absurd (cc (there)))
    (λ k v has owes unpicked within. absurd
    (owed_new r es (is_limited r es t (window after limit 0 t)) b
    (cut r es t (window after limit 0 t)) t heroes sec k v is vacuous has within owes unpicked))
    (record { whole = sym (ap (λ l. map r.at (filter (r.sends 0) l)) none); order = omega arith })
    (record { right = λ k c e. absurd (cc (e)); enough = λ k v e owes. absurd (false≢true owes) })
    tt (λ k c e. absurd (cc (e)))
