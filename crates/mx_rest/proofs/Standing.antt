-- The last content under each type is the same among the data that stand as among all data of the user and the room.
use Rattle.std.proofs.Common.{◌≡◌, ℕ, Bool, true, false, cond, ◌&&◌, List, [], ◌∷◌, filter, take, Option, Some, None, option_map, nat_cmp, Ordering, Equal, inl, inr, refl, ap, sym, ◌∙◌}
use Rattle.std.proofs.lemmas.Bool.{cases_Bool}
use Rattle.std.proofs.lemmas.Map.Text.{is_eq-slice_cmp}
use Rattle.std.proofs.lemmas.Slice.Eq.{bytes_eq-Decides}
use Rattle.std.specs.Cmp.{IsTotalOrder}
use Rattle.std.specs.Cmp.Lexicographic.{slice_cmp, nat_list_cmp_total}
use Rattle.std.specs.FinMap.{slice_cmp-IsAntisymmetric, nat_cmp-IsAntisymmetric}
use Rattle.std.specs.FinMap.Entries.{same_entries}
use Rattle.std.specs.Option.{option_or}
use Rattle.std.specs.Ordering.{eq_by_cmp}
use Rattle.std.specs.Str.{bytes_eq}
use Rattle.mx_ids.specs.declared.room_id.RoomId.{RoomId}
use Rattle.mx_window.specs.Lasts.{current, keep_if, last_of}
use Rattle.mx_window.proofs.Each.{AllByRecursion-every, AllByRecursion-passed, AllByRecursion-weaker, filter-same}
use Rattle.mx_window.proofs.Lasts.{AllByRecursion-current, last_of-picked, last_of-some}
use Rattle.mx_account.specs.Entries.{content_of, is_of, kind_of}
use Rattle.mx_account.specs.declared.entry.Entry.{Entry}
use Rattle.mx_filter.specs.Passes as filters
use Rattle.mx_filter.specs.declared.parts.DataPart.TheVariants as kinds
use Rattle.mx_filter.specs.declared.parts.Selection.{Selection}
use Rattle.mx_fold.specs.Latest.{latest}
use Rattle.mx_fold.proofs.Latest.{IsExact, all_sorted, latest_are_last}
use Rattle.mx_snapshot.specs.Accounts.{same_type, standing_data}
use Rattle.mx_rest.specs.Accounts.{account_in}
use Rattle.mx_rest.specs.Rests.{news}

module _ {X : Type 0} where
  -- a test that all of one key pass or none keeps the last of the key or drops it
  last_tested : (test has : X → Bool) → ((x y : X) → has x ≡ true → has y ≡ true → test x ≡ test y) → (xs : List X) → last_of has (filter test xs) ≡ keep_if test (last_of has xs)
  last_tested test has alike [] = refl
  last_tested test has alike (x ∷ xs) = by_tests (test x) (has x) (last_of has xs) refl refl found (last_tested test has alike xs)
    where
      found : (y : X) → last_of has xs ≡ Some y → has y ≡ true
      found y is = (last_of-some (λ (z : X). test z ≡ test z) has xs y (AllByRecursion-every (λ (z : X). test z ≡ test z) (λ z. refl) xs) is).0

      by_tests : (t h : Bool) (o : Option X) → test x ≡ t → has x ≡ h → ((y : X) → o ≡ Some y → has y ≡ true) → last_of has (filter test xs) ≡ keep_if test o
          → last_of has (cond t (x ∷ filter test xs) (filter test xs)) ≡ keep_if test (option_or o (cond h (Some x) None))
      by_tests false h (Some y) passes owns has_y rest = rest
      by_tests false true None passes owns has_y rest = rest ∙ sym (ap (λ b. cond b (Some x) None) passes)
      by_tests false false None passes owns has_y rest = rest
      by_tests true h (Some y) passes owns has_y rest = by_other (test y) refl
        where
          by_other : (b : Bool) → test y ≡ b → option_or (last_of has (filter test xs)) (cond (has x) (Some x) None) ≡ cond (test y) (Some y) None
          by_other true is = ap (λ l. option_or l (cond (has x) (Some x) None)) (rest ∙ ap (λ b. cond b (Some y) None) is) ∙ sym (ap (λ b. cond b (Some y) None) is)
          by_other false is =
              let lacks : has x ≡ false = elim (cases_Bool (has x)) [ inl a ↦ (let bad : true ≡ false = sym passes ∙ alike x y a (has_y y refl) ∙ is in absurd cc) | inr a ↦ a ] in
              ap (λ l. option_or l (cond (has x) (Some x) None)) (rest ∙ ap (λ b. cond b (Some y) None) is)
              ∙ ap (λ b. cond b (Some x) None) lacks ∙ sym (ap (λ b. cond b (Some y) None) is)
      by_tests true true None passes owns has_y rest =
          ap (λ l. option_or l (cond (has x) (Some x) None)) rest ∙ ap (λ b. cond b (Some x) None) owns ∙ sym (ap (λ b. cond b (Some x) None) passes)
      by_tests true false None passes owns has_y rest = ap (λ l. option_or l (cond (has x) (Some x) None)) rest ∙ ap (λ b. cond b (Some x) None) owns

  twice : (p q : X → Bool) (es : List X) → filter p (filter q es) ≡ filter (λ e. q e && p e) es
  twice p q [] = refl
  twice p q (e ∷ es) = by_test (q e) (twice p q es) where
    by_test : (b : Bool) → filter p (filter q es) ≡ filter (λ d. q d && p d) es → filter p (cond b (e ∷ filter q es) (filter q es)) ≡ cond (b && p e) (e ∷ filter (λ d. q d && p d) es) (filter (λ d. q d && p d) es)
    by_test true h = ap (λ l. cond (p e) (e ∷ l) l) h
    by_test false h = h

  -- what is followed by an item of the same key isn't the last of its key
  module _ {K V : Type 0} (cmp : K → K → Ordering) (total : IsTotalOrder cmp) (exact : IsExact cmp) (key : X → K) (value : X → V) (same : X → X → Bool)
      (keyed : (q : K) (x y : X) → eq_by_cmp cmp q (key x) ≡ true → same x y ≡ eq_by_cmp cmp q (key y))
      (test : X → Bool) (alike : (q : K) (x y : X) → eq_by_cmp cmp q (key x) ≡ true → eq_by_cmp cmp q (key y) ≡ true → test x ≡ test y) where
    latest_current : (xs : List X) → latest cmp key value (filter test (current same xs)) ≡ latest cmp key value (filter test xs)
    latest_current xs =
        same_entries cmp total exact (latest cmp key value (filter test (current same xs))) (latest cmp key value (filter test xs))
        (all_sorted cmp total key value [] (filter test (current same xs)) tt) (all_sorted cmp total key value [] (filter test xs) tt)
        (λ q. latest_are_last cmp total key value q (filter test (current same xs))
        ∙ ap (option_map value) (last_of-picked same (λ x. eq_by_cmp cmp q (key x)) (keyed q) test xs ∙ sym (last_tested test (λ x. eq_by_cmp cmp q (key x)) (alike q) xs))
        ∙ sym (latest_are_last cmp total key value q (filter test xs)))

-- ---- account data

texts_exact : (k l : List ℕ) → slice_cmp nat_cmp k l ≡ Equal → k ≡ l
texts_exact = slice_cmp-IsAntisymmetric nat_cmp-IsAntisymmetric

text_of : (q k : List ℕ) → eq_by_cmp (slice_cmp nat_cmp) q k ≡ true → q ≡ k
text_of q k is = (bytes_eq-Decides q k).0 (sym (is_eq-slice_cmp q k) ∙ is)

bytes_swap : (a b : List ℕ) → bytes_eq a b ≡ bytes_eq b a
bytes_swap a b =
    elim (cases_Bool (bytes_eq a b)) [
      | inl h ↦ h ∙ sym ((bytes_eq-Decides b a).1 (sym ((bytes_eq-Decides a b).0 h)))
      | inr h ↦ (elim (cases_Bool (bytes_eq b a)) [
        | inl k ↦ (let bad : false ≡ true = sym h ∙ (bytes_eq-Decides a b).1 (sym ((bytes_eq-Decides b a).0 k)) in absurd cc)
        | inr k ↦ h ∙ sym k
      ])
    ]

same_keyed : (q : List ℕ) (x y : Entry) → eq_by_cmp (slice_cmp nat_cmp) q (kind_of x) ≡ true → same_type x y ≡ eq_by_cmp (slice_cmp nat_cmp) q (kind_of y)
same_keyed q x y is =
    ap (bytes_eq (kind_of y)) (sym (text_of q (kind_of x) is)) ∙ bytes_swap (kind_of y) q ∙ sym (is_eq-slice_cmp q (kind_of y))

-- the last content of each type that passes is the same among the data that stand as among all
pub standing_latest : (passes : List ℕ → Bool) (user : List ℕ) (room : Option RoomId) (es : List Entry)
    → latest (slice_cmp nat_cmp) kind_of content_of (filter (λ e. is_of user room e && passes (kind_of e)) (standing_data user room es))
    ≡ latest (slice_cmp nat_cmp) kind_of content_of (filter (λ e. is_of user room e && passes (kind_of e)) es)
standing_latest passes user room es =
    ap (latest (slice_cmp nat_cmp) kind_of content_of)
    (filter-same (λ e. is_of user room e && passes (kind_of e)) (λ e. passes (kind_of e)) (standing_data user room es)
    (AllByRecursion-weaker (λ (e : Entry). is_of user room e ≡ true) (λ (e : Entry). (is_of user room e && passes (kind_of e)) ≡ passes (kind_of e)) (λ e own. ap (λ b. b && passes (kind_of e)) own) (standing_data user room es)
    (AllByRecursion-current (λ (e : Entry). is_of user room e ≡ true) same_type (filter (is_of user room) es) (AllByRecursion-passed (is_of user room) es))))
    ∙ latest_current (slice_cmp nat_cmp) nat_list_cmp_total texts_exact kind_of content_of same_type same_keyed (λ e. passes (kind_of e))
    (λ q x y of_x of_y. ap passes (sym (text_of q (kind_of x) of_x) ∙ text_of q (kind_of y) of_y)) (filter (is_of user room) es)
    ∙ ap (latest (slice_cmp nat_cmp) kind_of content_of) (twice (λ e. passes (kind_of e)) (is_of user room) es)

-- the account data that are sent of a room: those that stand give what all give
pub data_standing : (f : Selection) (user : List ℕ) (room : RoomId) (low : ℕ) (es : List Entry) → low ≡ 0 → (made : List Entry) → made ≡ standing_data user (Some room) es
    → account_in f user room made ≡ account_in f user room (news (take low es) es)
data_standing f user room low es first made is =
    ap (account_in f user room) is ∙ standing_latest (filters.passes_type f kinds.RoomAccount) user (Some room) es
    ∙ ap (λ n. account_in f user room (news (take n es) es)) (sym first)
