-- What redaction keeps: members in order, under their keys, and what is kept once is kept again.
use Rattle.std.proofs.Common.{◌≡◌, ℕ, ◌+◌, cond, List, [], ◌∷◌, ◌++◌, take, drop, true, false, Option, Some, None, Result, Ok, Err, IfOk, option_map, codes, Less, refl, sym, ap, subst, ◌∙◌, inl, inr, ◌⊎◌}
use Rattle.std.proofs.lemmas.Bool.{cases_Bool, cond-true, cond-false}
use Rattle.std.proofs.lemmas.List.{map-append, take-append-drop}
use Rattle.std.proofs.lemmas.List.Elements.{filter_map-append}
use Rattle.std.proofs.lemmas.Option.{cond_some}
use Rattle.std.proofs.lemmas.Slice.Eq.{bytes_eq-Decides}
use Rattle.std.specs.List.{AllByRecursion, filter_map, cons_option}
use Rattle.std.specs.Option.{option_to_list}
use Rattle.std.specs.Ordering.{nat_cmp}
use Rattle.std.specs.Cmp.Lexicographic.{slice_cmp}
use Rattle.std.specs.Str.{bytes_eq}
use mathlib.Core.Logic.{⊎_elim}
use Rattle.mx_ids.specs.declared.memory.Memory.{Memory}
use Rattle.mx_json.specs.Fields.{field}
use Rattle.mx_json.specs.Keys.{are_ordered, keys_of, value_at}
use Rattle.mx_json.specs.declared.members.Member.{Member}
use Rattle.mx_json.specs.declared.value.Json as json
use Rattle.mx_json.specs.declared.value.Json.{Json}
use Rattle.mx_json.proofs.Order.{ordered_front, below_rest, ordered_rest}
use Rattle.mx_event.specs.Forms.{member as keyed}
use Rattle.mx_event.specs.Kinds.{redaction_type}
use Rattle.mx_event.specs.Redaction.{kept_member, is_kept, is_invite_of_third_party, only_signed}
use Rattle.mx_event.proofs.Texts.{members_of-Object}

-- what a test makes of a member stands under its key
abbrev pub KeepsKey : (Member Json → Option (Member Json)) → Type 0
KeepsKey f = (m n : Member Json) → f m ≡ Some n → n.key ≡ m.key

abbrev Below : List ℕ → List (List ℕ) → Type 0
Below k ks = AllByRecursion (λ l. slice_cmp nat_cmp k l ≡ Less) ks

below_first : (k : List ℕ) (ks : List (List ℕ)) → Below k ks → are_ordered ks ≡ true → are_ordered (k ∷ ks) ≡ true
below_first k [] below order = refl
below_first k (l ∷ ks) below order = rw (below.0, order) refl

module _ (f : Member Json → Option (Member Json)) (same : KeepsKey f) where
  below_kept_at : (k : List ℕ) (m : Member Json) (o : Option (Member Json)) → f m ≡ o → slice_cmp nat_cmp k m.key ≡ Less → (ms : List (Member Json)) (last : List ℕ)
      → Below k (keys_of ms ++ last ∷ []) → Below k (keys_of (cons_option o ms) ++ last ∷ [])
  below_kept_at k m None e less ms last rest = rest
  below_kept_at k m (Some n) e less ms last rest = (ap (slice_cmp nat_cmp k) (same m n e) ∙ less, rest)

  below_kept : (k : List ℕ) (ms : List (Member Json)) (last : List ℕ) → Below k (keys_of ms ++ last ∷ []) → Below k (keys_of (filter_map f ms) ++ last ∷ [])
  below_kept k [] last all = all
  below_kept k (m ∷ ms) last all = below_kept_at k m (f m) refl all.0 (filter_map f ms) last (below_kept k ms last all.1)

  ordered_kept_at : (m : Member Json) (ms : List (Member Json)) (last : List ℕ) (o : Option (Member Json)) → f m ≡ o
      → are_ordered (keys_of (m ∷ ms) ++ last ∷ []) ≡ true
      → are_ordered (keys_of (filter_map f ms) ++ last ∷ []) ≡ true
      → are_ordered (keys_of (cons_option o (filter_map f ms)) ++ last ∷ []) ≡ true
  ordered_kept_at m ms last None e order rest = rest
  ordered_kept_at m ms last (Some n) e order rest =
      below_first n.key (keys_of (filter_map f ms) ++ last ∷ [])
      (below_kept n.key ms last (below_rest n.key (keys_of ms ++ last ∷ []) (ap (λ k. are_ordered (k ∷ (keys_of ms ++ last ∷ []))) (same m n e) ∙ order)))
      rest

  -- keys stay in order where members are left out
  pub ordered_kept : (ms : List (Member Json)) (last : List ℕ) → are_ordered (keys_of ms ++ last ∷ []) ≡ true → are_ordered (keys_of (filter_map f ms) ++ last ∷ []) ≡ true
  ordered_kept [] last order = order
  ordered_kept (m ∷ ms) last order = ordered_kept_at m ms last (f m) refl order (ordered_kept ms last (ordered_rest m.key (keys_of ms ++ last ∷ []) order))

  value_passed : (key : List ℕ) (m : Member Json) (o : Option (Member Json)) → f m ≡ o → bytes_eq m.key key ≡ false → (rest : List (Member Json)) → value_at key (cons_option o rest) ≡ value_at key rest
  value_passed key m None e other rest = refl
  value_passed key m (Some n) e other rest = cond-false (bytes_eq n.key key) (Some n.value) (value_at key rest) (ap (λ k. bytes_eq k key) (same m n e) ∙ other)

  -- the value at a key whose members are kept whole
  pub value_kept : (key : List ℕ) → ((m : Member Json) → bytes_eq m.key key ≡ true → f m ≡ Some m) → (ms : List (Member Json)) → value_at key (filter_map f ms) ≡ value_at key ms
  value_kept key keeps [] = refl
  value_kept key keeps (m ∷ ms) = ⊎_elim
      (λ t. ap (λ o. value_at key (cons_option o (filter_map f ms))) (keeps m t) ∙ cond-true (bytes_eq m.key key) (Some m.value) (value_at key (filter_map f ms)) t ∙ sym (cond-true (bytes_eq m.key key) (Some m.value) (value_at key ms) t))
      (λ other. value_passed key m (f m) refl other (filter_map f ms) ∙ value_kept key keeps ms ∙ sym (cond-false (bytes_eq m.key key) (Some m.value) (value_at key ms) other))
      (cases_Bool (bytes_eq m.key key))

module _ (f : Member Json → Option (Member Json)) (again : (m n : Member Json) → f m ≡ Some n → f n ≡ Some n) where
  again_at : (m : Member Json) (o : Option (Member Json)) → f m ≡ o → (ms : List (Member Json)) → filter_map f ms ≡ ms → filter_map f (cons_option o ms) ≡ cons_option o ms
  again_at m None e ms rest = rest
  again_at m (Some n) e ms rest = ap (λ o. cons_option o (filter_map f ms)) (again m n e) ∙ ap (λ l. n ∷ l) rest

  -- what is kept once is kept again
  pub kept_again : (ms : List (Member Json)) → filter_map f (filter_map f ms) ≡ filter_map f ms
  kept_again [] = refl
  kept_again (m ∷ ms) = again_at m (f m) refl (filter_map f ms) (kept_again ms)

-- a member that is kept, and the ways in which it is
abbrev Ways : List ℕ → Member Json → Member Json → Type 0
Ways kind m n =
    ((is_invite_of_third_party kind m.key ≡ true) × (signed : Json) × (only_signed m.key signed ≡ n))
    ⊎ ((is_invite_of_third_party kind m.key ≡ false) × (m ≡ n))

signed_way : (m n : Member Json) (o : Option Json) → option_map (only_signed m.key) o ≡ Some n → (signed : Json) × (only_signed m.key signed ≡ n)
signed_way m n None e = absurd (cc e)
signed_way m n (Some signed) e = (signed, cc e)

ways : (kind : List ℕ) (m n : Member Json) → kept_member kind m ≡ Some n → Ways kind m n
ways kind m n e =
    let signed = option_map (only_signed m.key) (field (codes "signed") m.value) in
    let whole : Option (Member Json) = cond (is_kept kind m.key) (Some m) None in
    ⊎_elim
    (λ t. let way = signed_way m n (field (codes "signed") m.value) (sym (cond-true (is_invite_of_third_party kind m.key) signed whole t) ∙ e) in inl (t, way.0, way.1))
    (λ f. inr (f, (cond_some (is_kept kind m.key) m n (sym (cond-false (is_invite_of_third_party kind m.key) signed whole f) ∙ e)).1))
    (cases_Bool (is_invite_of_third_party kind m.key))

pub kept_key : (kind : List ℕ) → KeepsKey (kept_member kind)
kept_key kind m n e = ⊎_elim (λ w. sym (ap (λ (x : Member Json). x.key) w.2)) (λ w. sym (ap (λ (x : Member Json). x.key) w.1)) (ways kind m n e)

signed_again : (key : List ℕ) (signed : Json) → field (codes "signed") (only_signed key signed).value ≡ Some signed
signed_again key signed = ap (value_at (codes "signed")) (members_of-Object (record { key = codes "signed"; value = signed } ∷ []))

signed_kept : (kind key : List ℕ) (signed : Json) → is_invite_of_third_party kind key ≡ true → kept_member kind (only_signed key signed) ≡ Some (only_signed key signed)
signed_kept kind key signed t =
    let n = only_signed key signed in
    cond-true (is_invite_of_third_party kind key) (option_map (only_signed key) (field (codes "signed") n.value)) (cond (is_kept kind key) (Some n) None) t
    ∙ ap (option_map (only_signed key)) (signed_again key signed)

pub member_again : (kind : List ℕ) (m n : Member Json) → kept_member kind m ≡ Some n → kept_member kind n ≡ Some n
member_again kind m n e = ⊎_elim
    (λ w. subst (λ (x : Member Json). kept_member kind x ≡ Some x) w.2 (signed_kept kind m.key w.1 w.0))
    (λ w. ap (kept_member kind) (sym w.1) ∙ e)
    (ways kind m n e)

-- what a redaction names is kept
pub redacts_kept : (m : Member Json) → bytes_eq m.key (codes "redacts") ≡ true → kept_member redaction_type m ≡ Some m
redacts_kept m t =
    let k = (bytes_eq-Decides m.key (codes "redacts")).0 t in
    ap (λ (key : List ℕ). cond (is_invite_of_third_party redaction_type key) (option_map (only_signed m.key) (field (codes "signed") m.value)) (cond (is_kept redaction_type key) (Some m) None)) k

one : (o : Option (Member Json)) → option_to_list o ≡ cons_option o []
one None = refl
one (Some n) = refl

-- one more member
pub keep_next : (kind : List ℕ) (ms front : List (Member Json)) (i : ℕ) (m : Member Json) → take (i + 1) ms ≡ take i ms ++ m ∷ [] → front ≡ filter_map (kept_member kind) (take i ms)
    → front ++ option_to_list (kept_member kind m) ≡ filter_map (kept_member kind) (take (i + 1) ms)
keep_next kind ms front i m more is =
    ap (λ l. l ++ option_to_list (kept_member kind m)) is
    ∙ ap (λ l. filter_map (kept_member kind) (take i ms) ++ l) (one (kept_member kind m))
    ∙ sym (filter_map-append (kept_member kind) (take i ms) (m ∷ []))
    ∙ ap (filter_map (kept_member kind)) (sym more)

-- the key of a member is above those of the members kept before it
pub may_keep : (kind : List ℕ) (ms front : List (Member Json)) (i : ℕ) (m : Member Json) → take (i + 1) ms ≡ take i ms ++ m ∷ [] → front ≡ filter_map (kept_member kind) (take i ms)
    → are_ordered (keys_of ms) ≡ true → are_ordered (keys_of front ++ m.key ∷ []) ≡ true
may_keep kind ms front i m more is order =
    let split = sym (map-append (λ (x : Member Json). x.key) (take (i + 1) ms) (drop (i + 1) ms)) ∙ ap keys_of (take-append-drop (i + 1) ms) in
    let begins = ordered_front (keys_of (take (i + 1) ms)) (keys_of (drop (i + 1) ms)) (ap are_ordered split ∙ order) in
    let keys : keys_of (take (i + 1) ms) ≡ keys_of (take i ms) ++ m.key ∷ [] = ap keys_of more ∙ map-append (λ (x : Member Json). x.key) (take i ms) (m ∷ []) in
    ap (λ l. are_ordered (keys_of l ++ m.key ∷ [])) is ∙ ordered_kept (kept_member kind) (kept_key kind) (take i ms) m.key (ap are_ordered (sym keys) ∙ begins)

signed_value : (key : List ℕ) (o : Option Json) → option_map (keyed key) (option_map (λ signed. json.Object (keyed (codes "signed") signed ∷ [])) o) ≡ option_map (only_signed key) o
signed_value key None = refl
signed_value key (Some signed) = refl

-- an invitation's `signed`, under the key of the invitation
pub signed_left : (kind : List ℕ) (m : Member Json) (r : Result (Option Json) Memory) → IfOk r (λ left. left ≡ option_map (λ signed. json.Object (keyed (codes "signed") signed ∷ [])) (field (codes "signed") m.value))
    → is_invite_of_third_party kind m.key ≡ true → IfOk r (λ value. option_map (keyed m.key) value ≡ kept_member kind m)
signed_left kind m (Err e) is t = tt
signed_left kind m (Ok left) is t =
    ap (option_map (keyed m.key)) is
    ∙ signed_value m.key (field (codes "signed") m.value)
    ∙ sym (cond-true (is_invite_of_third_party kind m.key) (option_map (only_signed m.key) (field (codes "signed") m.value)) (cond (is_kept kind m.key) (Some m) None) t)
