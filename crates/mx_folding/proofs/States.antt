-- The state under a key after a reply and after a page, up to the redactions.
use Rattle.std.proofs.Common.{◌≡◌, ℕ, ◌<◌, ◌≤◌, Bool, true, false, cond, ◌⊎◌, List, map, Option, Some, None, option_map, filter, refl, ap, ap₂, sym, ◌∙◌, inl, inr, arith}
use Rattle.std.proofs.lemmas.Bool.{both_ways, true_from_ne_false}
use Rattle.std.specs.List.{AllByRecursion}
use Rattle.std.specs.Option.{option_or}
use Rattle.mx_window.specs.Windows.{between}
use Rattle.mx_window.specs.Lasts.{last_of, current, keep_if}
use Rattle.mx_window.proofs.Each.{AllByRecursion-weaker, AllByRecursion-every, filter-swap}
use Rattle.mx_window.proofs.Intervals.{between-within}
use Rattle.mx_window.proofs.Lasts.{last_of-filter, last_of-same, last_of-some, last_of-split, last_of-picked, last_of-map}
use Rattle.mx_folding.proofs.Keys.{has_kept, has_state, one_key}
use Rattle.mx_folding.specs.Rooms.{Room, IsRoom, state_at, is_state, is_kept, has, sets_same}
use Rattle.mx_folding.specs.Sections.{sendable}
use Rattle.mx_folding.specs.Redactions.{shown}
use Rattle.mx_folding.specs.Parts.{state_list, state_part}
use Rattle.mx_folding.specs.Clients.{put_all, put_new}
use Rattle.mx_folding.specs.Agreement.{StateAgrees}
use Rattle.mx_folding.proofs.Redacting.{shown-has, shown-at}

-- the state at a position is the last after an earlier one, else the state there
pub state_split : {E K : Type 0} (r : Room E K) (es : List E) (p t : ℕ) (k : K) → IsRoom r es → p ≤ t
    → state_at r es t k ≡ option_or (last_of (has r k) (between r.at p t es)) (state_at r es p k)
state_split r es p t k room h = last_of-split r.at (has r k) 0 p t 0 es room.ascends (omega arith) h

-- the last under a key among events that are shown
pub shown_last : {E K : Type 0} (r : Room E K) (es : List E) (front : ℕ) (k : K) (xs : List E) → IsRoom r es
    → last_of (has r k) (map (shown r es front) xs) ≡ option_map (shown r es front) (last_of (has r k) xs)
shown_last r es front k xs room =
    last_of-map (has r k) (shown r es front) xs
    ∙ ap (option_map (shown r es front))
    (last_of-same (λ e. has r k (shown r es front e)) (has r k) xs (AllByRecursion-every (λ e. has r k (shown r es front e)
    ≡ has r k e) (λ e. shown-has r es room front k e) xs))

-- of the state at z, what is wanted has under each key the state's event there, if it is wanted
pub wanted_last : {E K : Type 0} (r : Room E K) (es : List E) (wanted : E → Bool) (z : ℕ) (k : K) → IsRoom r es
    → last_of (has r k) (filter wanted (state_list r es z)) ≡ keep_if wanted (state_at r es z k)
wanted_last r es wanted z k room =
    ap (last_of (has r k)) (filter-swap wanted (is_state r) (current (sets_same r) (between r.at 0 z es)))
    ∙ last_of-filter (has r k) (is_state r) (filter wanted (current (sets_same r) (between r.at 0 z es))) (AllByRecursion-every (λ e. has r k e ≡ true
    → is_state r e ≡ true) (λ e h. has_state r k e h) (filter wanted (current (sets_same r) (between r.at 0 z es))))
    ∙ last_of-picked (sets_same r) (has r k) (λ e f. one_key r es room k e f) wanted (between r.at 0 z es)

pub part_last : {E K : Type 0} (r : Room E K) (es : List E) (pick : E → Bool) (z : ℕ) (k : K) → IsRoom r es
    → last_of (has r k) (state_part r es pick z) ≡ keep_if pick (state_at r es z k)
part_last r es pick z k room =
    ap (last_of (has r k)) (filter-swap pick (is_kept r) (state_list r es z))
    ∙ last_of-filter (has r k) (is_kept r) (filter pick (state_list r es z)) (AllByRecursion-every (λ e. has r k e ≡ true
    → is_kept r e ≡ true) (has_kept r es room k) (filter pick (state_list r es z)))
    ∙ wanted_last r es pick z k room

-- the section gives each key the last after the cut, where each kept event there may be sent
pub section_last : {E K : Type 0} (r : Room E K) (es : List E) (front q high : ℕ) (k : K) → IsRoom r es
    → AllByRecursion (λ e. is_kept r e ≡ true → r.sends front e ≡ true) (between r.at q high es)
    → last_of (has r k) (sendable r es front q high) ≡ last_of (has r k) (between r.at q high es)
section_last r es front q high k room sends =
    last_of-filter (has r k) (r.sends front) (between r.at q high es)
    (AllByRecursion-weaker (λ e. is_kept r e ≡ true → r.sends front e ≡ true) (λ e. has r k e ≡ true → r.sends front e
    ≡ true) (λ e h is. h (has_kept r es room k e is)) (between r.at q high es) sends)

right_after : {E : Type 0} (at : E → ℕ) (f : E → E) → ((e : E) → at (f e) ≡ at e) → (pick : E → Bool) (a b d before : Option E) (c : E)
    → ((h : E) → ◌≡◌ {A = Option E} before (Some h) → ◌≡◌ {A = Option ℕ} (option_map at d) (Some (at h)))
    → ((x h : E) → ◌≡◌ {A = Option E} b (Some x) → ◌≡◌ {A = Option E} before (Some h) → pick x ≡ true)
    → ◌≡◌ {A = Option E} (option_or (option_map f a) (option_or (option_map f (keep_if pick (option_or b d))) before)) (Some c)
    → ◌≡◌ {A = Option ℕ} (option_map at (option_or a (option_or b d))) (Some (at c))
right_after at f same pick (Some a) b d before c right first e = ap Some (sym (same a)) ∙ ap (option_map at) e
right_after at f same pick None (Some x) d before c right first e = go (pick x) refl e where
  go : (p : Bool) → pick x ≡ p → ◌≡◌ {A = Option _} (option_or (option_map f (cond p (Some x) None)) before) (Some c)
      → ◌≡◌ {A = Option ℕ} (Some (at x)) (Some (at c))
  go true p eq = ap Some (sym (same x)) ∙ ap (option_map at) eq
  go false p eq = absurd (both_ways (pick x) p (first x c refl eq))
right_after at f same pick None None (Some x) before c right first e = go (pick x) e where
  go : (p : Bool) → ◌≡◌ {A = Option _} (option_or (option_map f (cond p (Some x) None)) before) (Some c) → ◌≡◌ {A = Option ℕ} (Some (at x)) (Some (at c))
  go true eq = ap Some (sym (same x)) ∙ ap (option_map at) eq
  go false eq = right c eq
right_after at f same pick None None None before c right first e = right c e

enough_after : {E : Type 0} (f : E → E) (pick : E → Bool) (a b d before : Option E) (v : E) → ◌≡◌ {A = Option E} (option_or a (option_or b d)) (Some v)
    → (◌≡◌ {A = Option E} b (Some v) → pick v ≡ true)
    → (◌≡◌ {A = Option E} d (Some v) → pick v ≡ false → (c : E) × (◌≡◌ {A = Option E} before (Some c)))
    → (c : E) × (◌≡◌ {A = Option E} (option_or (option_map f a) (option_or (option_map f (keep_if pick (option_or b d))) before)) (Some c))
enough_after f pick (Some a) b d before v e first second = (f a, refl)
enough_after f pick None (Some x) d before v e first second =
    let same : x ≡ v = cc (e) in
    let p : pick x ≡ true = ap pick same ∙ first e in rw p (f x, refl)
enough_after f pick None None (Some x) before v e first second = go (pick x) refl where
  go : (p : Bool) → pick x ≡ p → (c : _) × (◌≡◌ {A = Option _} (option_or (option_map f (cond p (Some x) None)) before) (Some c))
  go true p = (f x, refl)
  go false p = let same : x ≡ v = cc (e) in second e (ap pick (sym same) ∙ p)
enough_after f pick None None None before v e first second = absurd (cc (e))

last_above : {E K : Type 0} (r : Room E K) (es : List E) (low high : ℕ) (k : K) (x : E)
    → ◌≡◌ {A = Option E} (last_of (has r k) (between r.at low high es)) (Some x) → (has r k x ≡ true) × (low < r.at x) × (r.at x ≤ high)
last_above r es low high k x e =
    let facts =
    last_of-some (λ e. (low < r.at e)
    × (r.at e ≤ high)) (has r k) (between r.at low high es) x (between-within r.at low high es) e in (facts.0, facts.1.0, facts.1.1)

-- the state after a reply, whose state part is that at z, and which puts the last after z under each key
pub state_reply : {E K : Type 0} (r : Room E K) (es : List E) (s z t front : ℕ) (pick : E → Bool) (part puts : List E) (owed owed' : K
    → E → Bool) (state : K → Option E) → IsRoom r es
    → s ≤ z → z ≤ t
    → ((k : K) → ◌≡◌ {A = Option E} (last_of (has r k) puts) (option_map (shown r es front) (last_of (has r k) (between r.at z t es))))
    → ((k : K) → ◌≡◌ {A = Option E} (last_of (has r k) part) (option_map (shown r es front) (keep_if pick (state_at r es z k))))
    → ((k : K) (x h : E) → s < r.at x → ◌≡◌ {A = Option E} (state k) (Some h) → pick x ≡ true)
    → ((k : K) (v : E) → has r k v ≡ true → owed' k v ≡ true → pick v ≡ false → r.at v ≤ t → (r.at v ≤ s) × (owed k v ≡ true))
    → StateAgrees r es s owed state → StateAgrees r es t owed' (put_all r puts (put_all r part state))
state_reply r es s z t front pick part puts owed owed' state room low high put told first second agrees = record {
  right = λ k c e.
      ap (option_map r.at) (splits k)
      ∙ right_after r.at (shown r es front) (λ x. shown-at r es room front x) pick (last_of (has r k) (between r.at z t es))
      (last_of (has r k) (between r.at s z es)) (state_at r es s k) (state k) c
      (λ h is. agrees.right k h is) (λ x h is there. first k x h (last_above r es s z k x is).1 there) (sym (after_key k) ∙ e);
  enough = λ k v is owes.
      let facts = last_of-some (λ e. (0 < r.at e) × (r.at e ≤ t)) (has r k) (between r.at 0 t es) v (between-within r.at 0 t es) is in
      let found =
      enough_after (shown r es front) pick (last_of (has r k) (between r.at z t es))
      (last_of (has r k) (between r.at s z es)) (state_at r es s k) (state k) v
      (sym (splits k) ∙ is)
      (λ new. true_from_ne_false (pick v)
      (λ p. let k' = second k v facts.0 owes p facts.1.1 in let l : s < r.at v = (last_above r es s z k v new).1 in
      let m : r.at v ≤ s = k'.0 in absurd (omega arith)))
      (λ old p. agrees.enough k v old (second k v facts.0 owes p facts.1.1).1) in
      (found.0, after_key k ∙ found.1);
} where
  splits : (k : _) → state_at r es t k
      ≡ option_or (last_of (has r k) (between r.at z t es)) (option_or (last_of (has r k) (between r.at s z es)) (state_at r es s k))
  splits k = state_split r es z t k room high ∙ ap (option_or (last_of (has r k) (between r.at z t es))) (state_split r es s z k room low)

  after_key : (k : _) → put_all r puts (put_all r part state) k
      ≡ option_or (option_map (shown r es front) (last_of (has r k) (between r.at z t es)))
      (option_or (option_map (shown r es front) (keep_if pick (option_or (last_of (has r k) (between r.at s z es)) (state_at r es s k)))) (state k))
  after_key k =
      ap₂ (λ x y. option_or x (option_or y (state k))) (put k) (told k
      ∙ ap (λ o. option_map (shown r es front) (keep_if pick o)) (state_split r es s z k room low))

right_page : {E : Type 0} (at : E → ℕ) (f : E → E) → ((e : E) → at (f e) ≡ at e) → (wanted : E → Bool) (b g before : Option E) (c : E)
    → ((h : E) → ◌≡◌ {A = Option E} before (Some h) → ◌≡◌ {A = Option ℕ} (option_map at (option_or b g)) (Some (at h)))
    → ((v : E) → ◌≡◌ {A = Option E} b (Some v) → (h : E) × (◌≡◌ {A = Option E} before (Some h)))
    → ◌≡◌ {A = Option E} (option_or before (option_map f (keep_if wanted g))) (Some c)
    → ◌≡◌ {A = Option ℕ} (option_map at (option_or b g)) (Some (at c))
right_page at f same wanted b g (Some h) c right late e = right c e
right_page at f same wanted (Some v) g None c right late e = absurd (cc ((late v refl).1))
right_page at f same wanted None None None c right late e = absurd (cc (e))
right_page at f same wanted None (Some x) None c right late e = go (wanted x) e where
  go : (p : Bool) → ◌≡◌ {A = Option _} (option_map f (cond p (Some x) None)) (Some c) → ◌≡◌ {A = Option ℕ} (Some (at x)) (Some (at c))
  go true eq = ap Some (sym (same x)) ∙ ap (option_map at) eq
  go false eq = absurd (cc (eq))

enough_page : {E : Type 0} (f : E → E) (wanted : E → Bool) (b g before : Option E) (v : E) → ◌≡◌ {A = Option E} (option_or b g) (Some v)
    → ((x : E) → ◌≡◌ {A = Option E} b (Some x) → (h : E) × (◌≡◌ {A = Option E} before (Some h)))
    → ((h : E) × (◌≡◌ {A = Option E} before (Some h))) ⊎ (wanted v ≡ true)
    → (c : E) × (◌≡◌ {A = Option E} (option_or before (option_map f (keep_if wanted g))) (Some c))
enough_page f wanted b g (Some h) v e late o = (h, refl)
enough_page f wanted (Some x) g None v e late o = absurd (cc ((late x refl).1))
enough_page f wanted None None None v e late o = absurd (cc (e))
enough_page f wanted None (Some x) None v e late (inl h) = absurd (cc (h.1))
enough_page f wanted None (Some x) None v e late (inr w) = let same : x ≡ v = cc (e) in let p : wanted x ≡ true = ap wanted same ∙ w in rw p (f x, refl)

-- the state after a page of a gap that was cut at g: its members are those of the state at g that are wanted
pub state_page : {E K : Type 0} (r : Room E K) (es : List E) (g t front : ℕ) (wanted : E → Bool) (members : List E) (owed owed' : K
    → E → Bool) (state : K → Option E) → IsRoom r es
    → g ≤ t
    → ((k : K) → ◌≡◌ {A = Option E} (last_of (has r k) members) (option_map (shown r es front) (keep_if wanted (state_at r es g k))))
    → ((k : K) (v : E) → g < r.at v → owed k v ≡ true)
    → ((k : K) (v : E) → has r k v ≡ true → owed' k v ≡ true → (owed k v ≡ true) ⊎ (wanted v ≡ true))
    → StateAgrees r es t owed state → StateAgrees r es t owed' (put_new r members state)
state_page r es g t front wanted members owed owed' state room up told late more agrees = record {
  right = λ k c e.
      ap (option_map r.at) (state_split r es g t k room up)
      ∙ right_page r.at (shown r es front) (λ x. shown-at r es room front x) wanted (last_of (has r k) (between r.at g t es)) (state_at r es g k) (state k) c
      (λ h is. ap (option_map r.at) (sym (state_split r es g t k room up))
      ∙ agrees.right k h is) (λ v is. lately k v is) (ap (option_or (state k)) (sym (told k)) ∙ e);
  enough = λ k v is owes.
      let facts = last_of-some (λ e. (0 < r.at e) × (r.at e ≤ t)) (has r k) (between r.at 0 t es) v (between-within r.at 0 t es) is in
      let found = enough_page (shown r es front) wanted (last_of (has r k) (between r.at g t es)) (state_at r es g k) (state k) v
      (sym (state_split r es g t k room up) ∙ is) (λ x new. lately k x new)
      (elim (more k v facts.0 owes) [ inl o ↦ inl (agrees.enough k v is o) | inr w ↦ inr w ]) in
      (found.0, ap (option_or (state k)) (told k) ∙ found.1);
} where
  lately : (k : _) (v : _) → ◌≡◌ {A = Option _} (last_of (has r k) (between r.at g t es)) (Some v) → (h : _) × (◌≡◌ {A = Option _} (state k) (Some h))
  lately k v is = agrees.enough k v (state_split r es g t k room up ∙ ap (λ o. option_or o (state_at r es g k)) is) (late k v (last_above r es g t k v is).1)

-- a state whose copies are replaced at their positions agrees as before
pub state_redact : {E K : Type 0} (r : Room E K) (es : List E) (t : ℕ) (owed owed' : K → E → Bool) (f : E → E) (state : K → Option E)
    → ((e : E) → r.at (f e) ≡ r.at e)
    → ((k : K) (v : E) → owed' k v ≡ owed k v) → StateAgrees r es t owed state → StateAgrees r es t owed' (λ k. option_map f (state k))
state_redact r es t owed owed' f state same same_owed agrees = record {
  right = λ k c e. right_map r.at f same (option_map r.at (state_at r es t k)) (state k) c (λ h is. agrees.right k h is) e;
  enough = λ k v is owes. let found = agrees.enough k v is (sym (same_owed k v) ∙ owes) in (f found.0, ap (option_map f) found.1);
} where
  right_map : {E : Type 0} (at : E → ℕ) (f : E → E) → ((e : E) → at (f e) ≡ at e) → (o : Option ℕ) (before : Option E) (c : E)
      → ((h : E) → ◌≡◌ {A = Option E} before (Some h) → ◌≡◌ {A = Option ℕ} o (Some (at h)))
      → ◌≡◌ {A = Option E} (option_map f before) (Some c) → ◌≡◌ {A = Option ℕ} o (Some (at c))
  right_map at f same o None c right e = absurd (cc (e))
  right_map at f same o (Some h) c right e = right h refl ∙ ap Some (sym (same h)) ∙ ap (option_map at) e
