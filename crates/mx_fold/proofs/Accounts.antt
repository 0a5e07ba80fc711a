-- Global account data: what a client holds after replies is what stands last, type by type.
use Rattle.std.proofs.Common.{◌≡◌, ℕ, ◌≤◌, Bool, true, false, cond, T, ◌&&◌, List, [], ◌∷◌, filter, nat_cmp, Option, Some, None, option_map, refl, sym, ap, ap₂, ◌∙◌, arith, take, nat_lt, nat_le}
use Rattle.std.proofs.lemmas.Bool.{and_parts}
use Rattle.std.proofs.lemmas.Map.Text.{is_eq-slice_cmp}
use Rattle.std.proofs.lemmas.Slice.Eq.{bytes_eq-Decides}
use Rattle.std.specs.Cmp.Lexicographic.{slice_cmp, nat_list_cmp_total, nat_list_eq_equiv}
use Rattle.std.specs.FinMap.Entries.{find, is_sorted}
use Rattle.std.specs.Option.{option_or}
use Rattle.std.specs.Ordering.{eq_by_cmp}
use Rattle.std.specs.Str.{bytes_eq}
use Rattle.mx_json.specs.declared.value.Json.{Json}
use Rattle.mx_window.specs.Windows.{between, stand_from}
use Rattle.mx_window.specs.Lasts.{last_of}
use Rattle.mx_window.proofs.Each.{AllByRecursion-every, AllByRecursion-weaker, AllByRecursion-passed, filter-swap, list_any-none}
use Rattle.mx_window.proofs.Intervals.{Ascends-filter, Ascends-stand_from}
use Rattle.mx_window.proofs.Lasts.{option_or-assoc, last_of-filter, last_of-same, last_of-none, last_of-split}
use Rattle.mx_ids.specs.declared.sync_token.SyncToken.{SyncToken}
use Rattle.mx_account.specs.Entries.{content_of, is_of, is_data_of, kind_of, position_of}
use Rattle.mx_account.specs.Values.{value_at}
use Rattle.mx_account.specs.declared.entry.Entry.{Entry}
use Rattle.mx_account.specs.declared.entry.Entry.TheVariants as entry
use Rattle.mx_view.proofs.Orders.{between_taken}
use Rattle.mx_filter.specs.Passes as filters
use Rattle.mx_filter.specs.declared.parts.DataPart.TheVariants as kinds
use Rattle.mx_filter.specs.declared.parts.Selection.{Selection}
use Rattle.mx_fold.specs.Latest.{latest, over}
use Rattle.mx_fold.specs.Servers.{Server}
use Rattle.mx_fold.specs.Accounts.{is_global, set_between, defaults_of, account_sent, content_at, account_at}
use Rattle.mx_fold.proofs.Latest.{all_sorted, all_found, last_is_first, latest_are_last}

same_text : (xs ys : List ℕ) → bytes_eq xs ys ≡ true → xs ≡ ys
same_text xs ys h = (bytes_eq-Decides xs ys).0 h

map-or : {A B : Type 0} (f : A → B) (a b : Option A) → option_map f (option_or a b) ≡ option_or (option_map f a) (option_map f b)
map-or f None b = refl
map-or f (Some x) b = refl

cond-or : {A : Type 0} (p : Bool) (a b : Option A) → option_or (cond p a None) (cond p b None) ≡ cond p (option_or a b) None
cond-or true a b = refl
cond-or false a b = refl

-- what passes two tests
pub filter-both : {E : Type 0} (p q : E → Bool) (es : List E) → filter (λ e. p e && q e) es ≡ filter q (filter p es)
filter-both p q [] = refl
filter-both p q (e ∷ es) = by (p e) (filter-both p q es) where
  by : (b : Bool) → filter (λ d. p d && q d) es ≡ filter q (filter p es)
      → cond (b && q e) (e ∷ filter (λ d. p d && q d) es) (filter (λ d. p d && q d) es) ≡ filter q (cond b (e ∷ filter p es) (filter p es))
  by true h = ap (λ l. cond (q e) (e ∷ l) l) h
  by false h = h

-- the order of texts compares them as equality does
told_apart : (kind k : List ℕ) → bytes_eq k kind ≡ eq_by_cmp (slice_cmp nat_cmp) kind k
told_apart kind k = nat_list_eq_equiv.symm k kind ∙ sym (is_eq-slice_cmp kind k)

-- contents in order have under a type what is found there
content_found : (kind : List ℕ) (ps : List (List ℕ × Json)) → T (is_sorted (slice_cmp nat_cmp) ps) → content_at kind ps ≡ find (slice_cmp nat_cmp) kind ps
content_found kind ps sorted =
    let test : (List ℕ × Json) → Bool = λ p. bytes_eq p.0 kind in
    let found : (List ℕ × Json) → Bool = λ p. eq_by_cmp (slice_cmp nat_cmp) kind p.0 in
    ap (option_map (λ (p : List ℕ × Json). p.1))
    (last_of-same test found ps (AllByRecursion-every (λ (p : List ℕ × Json). test p ≡ found p) (λ p. told_apart kind p.0) ps))
    ∙ last_is_first (slice_cmp nat_cmp) nat_list_cmp_total kind ps sorted

-- the latest contents have under a type the content of the last item of the type
content_latest : {X : Type 0} (kind : List ℕ) (key : X → List ℕ) (value : X → Json) (xs : List X)
    → content_at kind (latest (slice_cmp nat_cmp) key value xs) ≡ option_map value (last_of (λ x. bytes_eq (key x) kind) xs)
content_latest kind key value xs =
    content_found kind (latest (slice_cmp nat_cmp) key value xs) (all_sorted (slice_cmp nat_cmp) nat_list_cmp_total key value [] xs tt)
    ∙ latest_are_last (slice_cmp nat_cmp) nat_list_cmp_total key value kind xs
    ∙ ap (option_map value)
    (sym (last_of-same (λ x. bytes_eq (key x) kind) (λ x. eq_by_cmp (slice_cmp nat_cmp) kind (key x)) xs
    (AllByRecursion-every (λ x. bytes_eq (key x) kind ≡ eq_by_cmp (slice_cmp nat_cmp) kind (key x)) (λ x. told_apart kind (key x)) xs)))

-- contents that are put over others in order
content_over : (kind : List ℕ) (ps qs : List (List ℕ × Json)) → T (is_sorted (slice_cmp nat_cmp) ps)
    → content_at kind (over (slice_cmp nat_cmp) ps qs) ≡ option_or (content_at kind qs) (content_at kind ps)
content_over kind ps qs sorted =
    let key : (List ℕ × Json) → List ℕ = λ p. p.0 in
    let value : (List ℕ × Json) → Json = λ p. p.1 in
    let test : (List ℕ × Json) → Bool = λ p. bytes_eq p.0 kind in
    let found : (List ℕ × Json) → Bool = λ p. eq_by_cmp (slice_cmp nat_cmp) kind p.0 in
    content_found kind (over (slice_cmp nat_cmp) ps qs) (all_sorted (slice_cmp nat_cmp) nat_list_cmp_total key value ps qs sorted)
    ∙ all_found (slice_cmp nat_cmp) nat_list_cmp_total key value kind ps qs
    ∙ ap₂ (λ (a b : Option Json). option_or a b)
    (ap (option_map value)
    (sym (last_of-same test found qs (AllByRecursion-every (λ (p : List ℕ × Json). test p ≡ found p) (λ p. told_apart kind p.0) qs))))
    (sym (content_found kind ps sorted))

never : (has pass : Bool) → (has ≡ true → pass ≡ false) → pass ≡ true → has ≡ false
never true pass h k = let both : true ≡ false = sym k ∙ h refl in absurd cc
never false pass h k = refl

-- a test that is the same of all that are sought
last_of-decided : {E : Type 0} (has pass : E → Bool) (b : Bool) → ((e : E) → has e ≡ true → pass e ≡ b) → (es : List E)
    → last_of has (filter pass es) ≡ cond b (last_of has es) None
last_of-decided has pass true h es = last_of-filter has pass es (AllByRecursion-every (λ e. has e ≡ true → pass e ≡ true) h es)
last_of-decided has pass false h es =
    last_of-none has (filter pass es)
    (list_any-none has (filter pass es)
    (AllByRecursion-weaker (λ e. pass e ≡ true) (λ e. has e ≡ false) (λ e k. never (has e) (pass e) (h e) k) (filter pass es)
    (AllByRecursion-passed pass es)))

map-cond : {A B : Type 0} (f : A → B) (b : Bool) (o : Option A) → option_map f (cond b o None) ≡ cond b (option_map f o) None
map-cond f true o = refl
map-cond f false o = refl

data_is : (user kind : List ℕ) (e : Entry) → is_data_of user None kind e ≡ (is_of user None e && bytes_eq (kind_of e) kind)
data_is user kind (entry.Data own_user room own_kind content at) = refl
data_is user kind (entry.Filter own_user id filter at) = refl

module _ {V D : Type 0} (w : Server V D) (user : List ℕ) (f : Selection) (kind : List ℕ) where
  abbrev last_content : List Entry → ℕ → ℕ → Option Json
  last_content entries low high =
      option_map content_of (last_of (λ (e : Entry). bytes_eq (kind_of e) kind) (between position_of low high (filter (is_of user None) entries)))

  -- the last one of the type, among the user's
  value_is : (entries : List Entry) (high : ℕ) → value_at user None kind high entries ≡ last_content entries 0 high
  value_is entries high =
      let es : List Entry = between position_of 0 high entries in
      let has : Entry → Bool = λ e. bytes_eq (kind_of e) kind in
      ap (option_map content_of)
      (sym (last_of-filter (is_data_of user None kind) (is_of user None) es
      (AllByRecursion-every (λ (e : Entry). is_data_of user None kind e ≡ true → is_of user None e
      ≡ true) (λ e h. (and_parts (is_of user None e) (has e) (sym (data_is user kind e) ∙ h)).0) es))
      ∙ last_of-same (is_data_of user None kind) has (filter (is_of user None) es)
      (AllByRecursion-weaker (λ (e : Entry). is_of user None e ≡ true) (λ (e : Entry). is_data_of user None kind e ≡ has e) (λ e h. data_is user kind e
      ∙ ap (λ b. b && has e) h) (filter (is_of user None) es) (AllByRecursion-passed (is_of user None) es))
      ∙ ap (last_of has) (filter-swap (is_of user None) (λ (e : Entry). nat_lt 0 (position_of e) && nat_le (position_of e) high) entries))

  -- what was set in a window has under a type the last content there, if the type passes
  content_set : (entries : List Entry) (low high : ℕ) → content_at kind (set_between w entries user f low high)
      ≡ cond (filters.passes_type f kinds.Account kind) (last_content entries low high) None
  content_set entries low high =
      let window : List Entry = between position_of low high entries in
      let es : List Entry = between position_of low high (filter (is_of user None) entries) in
      let has : Entry → Bool = λ e. bytes_eq (kind_of e) kind in
      let pass : Entry → Bool = λ e. filters.passes_type f kinds.Account (kind_of e) in
      let inside : Entry → Bool = λ e. nat_lt low (position_of e) && nat_le (position_of e) high in
      content_latest kind kind_of content_of (filter (is_global f user) window)
      ∙ ap (λ (l : List Entry). option_map content_of (last_of has l))
      (filter-both (is_of user None) pass window ∙ ap (filter pass) (filter-swap (is_of user None) inside entries))
      ∙ ap (option_map content_of)
      (last_of-decided has pass (filters.passes_type f kinds.Account kind)
      (λ e h. ap (filters.passes_type f kinds.Account) (same_text (kind_of e) kind h)) es)
      ∙ map-cond content_of (filters.passes_type f kinds.Account kind) (last_of has es)

  abbrev default : Option Json
  default = content_at kind (defaults_of w user f)

  picture_is : (entries : List Entry) (high : ℕ) → account_at w entries user f high kind
      ≡ option_or (cond (filters.passes_type f kinds.Account kind) (last_content entries 0 high) None) default
  picture_is entries high = ap (λ o. option_or (cond (filters.passes_type f kinds.Account kind) o None) default) (value_is entries high)

  -- the account data of a first reply
  pub account_new : (entries : List Entry) (high : ℕ) → content_at kind (account_sent w entries user f None high) ≡ account_at w entries user f high kind
  account_new entries high =
      let key : (List ℕ × Json) → List ℕ = λ p. p.0 in
      let value : (List ℕ × Json) → Json = λ p. p.1 in
      let ds = defaults_of w user f in
      content_over kind (latest (slice_cmp nat_cmp) key value ds) (set_between w entries user f 0 high)
      (all_sorted (slice_cmp nat_cmp) nat_list_cmp_total key value [] ds tt)
      ∙ ap₂ (λ (a b : Option Json). option_or a b) (content_set entries 0 high) (content_latest kind key value ds)
      ∙ sym (picture_is entries high)

  -- the account data after one more reply
  pub account_more : (entries : List Entry) → stand_from position_of 1 entries ≡ true → (since : SyncToken) (high : ℕ) (held : Option Json)
      → since.a ≤ high → held ≡ account_at w entries user f since.a kind
      → option_or (content_at kind (account_sent w entries user f (Some since) high)) held ≡ account_at w entries user f high kind
  account_more entries stands since high held up is =
      let p = filters.passes_type f kinds.Account kind in
      let es = filter (is_of user None) entries in
      let test : Entry → Bool = λ e. bytes_eq (kind_of e) kind in
      let halves : last_content entries 0 high ≡ option_or (last_content entries since.a high) (last_content entries 0 since.a) =
      ap (option_map content_of)
      (last_of-split position_of test 0 since.a high 0 es
      (Ascends-filter position_of 0 (is_of user None) entries (Ascends-stand_from position_of 0 1 entries (omega arith) stands)) (omega arith) up)
      ∙ map-or content_of (last_of test (between position_of since.a high es)) (last_of test (between position_of 0 since.a es)) in
      ap₂ option_or (content_set entries since.a high) (is ∙ picture_is entries since.a)
      ∙ sym (option_or-assoc (cond p (last_content entries since.a high) None) (cond p (last_content entries 0 since.a) None) default)
      ∙ ap (λ o. option_or o default) (cond-or p (last_content entries since.a high) (last_content entries 0 since.a) ∙ ap (λ o. cond p o None) (sym halves))
      ∙ sym (picture_is entries high)

-- what a reply sends over the lists at its mark
pub account_at_mark : {V D : Type 0} (w : Server V D) (entries : List Entry) → stand_from position_of 1 entries ≡ true
    → (user : List ℕ) (f : Selection) (since : Option SyncToken) (high : ℕ)
    → account_sent w (take high entries) user f since high ≡ account_sent w entries user f since high
account_at_mark w entries stands user f since high = by since where
  sent_same : (low : ℕ) → set_between w (take high entries) user f low high ≡ set_between w entries user f low high
  sent_same low =
      let inside : Entry → Bool = λ e. nat_lt low (position_of e) && nat_le (position_of e) high in
      ap (latest (slice_cmp nat_cmp) kind_of content_of)
      (filter-swap (is_global f user) inside (take high entries)
      ∙ between_taken position_of (is_global f user) low high high entries stands (omega arith)
      ∙ filter-swap inside (is_global f user) entries)

  by : (since : Option SyncToken) → account_sent w (take high entries) user f since high ≡ account_sent w entries user f since high
  by None =
      ap (over (slice_cmp nat_cmp)
      (latest (slice_cmp nat_cmp) (λ (p : List ℕ × Json). p.0) (λ (p : List ℕ × Json). p.1) (defaults_of w user f))) (sent_same 0)
  by (Some s) = sent_same s.a
