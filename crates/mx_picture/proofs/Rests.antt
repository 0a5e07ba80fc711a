-- What the picture has of a room besides its events is what the streams say at the token.
use Rattle.std.proofs.Common.{◌≡◌, ℕ, Bool, true, false, cond, not, ◌||◌, ◌&&◌, List, filter, take, Option, Some, None, option_map, Ordering, Less, Equal, Greater, is_eq, nat_cmp, refl, ap, ap₂, sym, ◌∙◌}
use Rattle.std.proofs.lemmas.Bool.{and_parts}
use Rattle.std.proofs.lemmas.Map.Text.{is_eq-slice_cmp}
use Rattle.std.proofs.lemmas.Slice.Eq.{bytes_eq-Decides}
use Rattle.std.specs.Cmp.{IsTotalOrder, both_ways, nat_cmp_total, on_total, then_total}
use Rattle.std.specs.Cmp.Lexicographic.{slice_cmp, nat_list_cmp_total, nat_list_eq_equiv}
use Rattle.std.specs.FinMap.{slice_cmp-IsAntisymmetric, nat_cmp-IsAntisymmetric}
use Rattle.std.specs.Ordering.{eq_by_cmp, ordering_then}
use Rattle.std.specs.Str.{bytes_eq}
use Rattle.mx_ids.specs.declared.room_id.RoomId.{RoomId}
use Rattle.mx_json.specs.declared.value.Json.{Json}
use Rattle.mx_account.specs.Entries as account
use Rattle.mx_account.specs.Entries.{content_of, is_data_of, is_of, kind_of}
use Rattle.mx_account.specs.declared.entry.Entry.{Entry}
use Rattle.mx_account.specs.declared.entry.Entry.TheVariants as entry
use Rattle.mx_receipt.specs.Receipts as receipt
use Rattle.mx_receipt.specs.Receipts.{is_for, same_kind, standing}
use Rattle.mx_receipt.specs.declared.receipt.Receipt.{Receipt}
use Rattle.mx_receipt.specs.declared.receipt.ReceiptKind.{ReceiptKind}
use Rattle.mx_receipt.specs.declared.receipt.ReceiptKind.TheVariants.{Read, Private}
use Rattle.mx_snapshot.specs.Receipts.{of_room}
use Rattle.mx_window.specs.Lasts.{last_of}
use Rattle.mx_window.proofs.Each.{AllByRecursion-every, AllByRecursion-passed, AllByRecursion-weaker, filter-same}
use Rattle.mx_window.proofs.Intervals.{between-take}
use Rattle.mx_window.proofs.Lasts.{last_of-filter, last_of-same}
use Rattle.mx_event.specs.Lawful.{same_room}
use Rattle.mx_view.proofs.Orders.{before_parts}
use Rattle.mx_filter.specs.declared.parts.Selection.{Selection}
use Rattle.mx_fold.specs.Lists.{fronts_of}
use Rattle.mx_fold.proofs.Latest.{IsExact}
use Rattle.mx_rest.specs.Accounts.{account_in, is_sent}
use Rattle.mx_rest.specs.Receipts.{Key, is_private, key_cmp, key_of, number_of, receipts_in, sees, shows}
use Rattle.mx_rest.proofs.UpTo as rest
use Rattle.mx_rest.proofs.UpTo.{counts_upto, summary_upto}
use Rattle.mx_picture.specs.Rests.{RestsAre, has_type, is_by, is_told, only}
use Rattle.mx_picture.proofs.Keyed.{last_kept, one_latest, one_of_values}

texts_exact : IsExact (slice_cmp nat_cmp)
texts_exact = slice_cmp-IsAntisymmetric nat_cmp-IsAntisymmetric

key_total : IsTotalOrder key_cmp
key_total = then_total (on_total (λ (k : Key). k.0) nat_list_cmp_total) (on_total (λ (k : Key). k.1) nat_cmp_total)

key_exact : IsExact key_cmp
key_exact k l is =
    elim (slice_cmp nat_cmp k.0 l.0) as (λ r. slice_cmp nat_cmp k.0 l.0 ≡ r → ordering_then r (nat_cmp k.1 l.1) ≡ Equal → k ≡ l) [
      | Less ↦ λ p e. absurd cc
      | Equal ↦ λ p e i. (texts_exact k.0 l.0 p i, nat_cmp-IsAntisymmetric k.1 l.1 e i)
      | Greater ↦ λ p e. absurd cc
    ] refl is

texts_are : (k l : List ℕ) → bytes_eq k l ≡ true → k ≡ l
texts_are k l = (bytes_eq-Decides k l).0

turned : (k l : List ℕ) → bytes_eq k l ≡ true → bytes_eq l k ≡ true
turned k l is = ap (λ m. bytes_eq l m) (texts_are k l is) ∙ nat_list_eq_equiv.refl l

text_test : (q k : List ℕ) → eq_by_cmp (slice_cmp nat_cmp) q k ≡ bytes_eq k q
text_test q k = is_eq-slice_cmp q k ∙ both_ways (bytes_eq q k) (bytes_eq k q) (turned q k) (turned k q)

-- ---- receipts

both_equal : (a b : Ordering) → is_eq (ordering_then a b) ≡ (is_eq a && is_eq b)
both_equal Less b = refl
both_equal Equal b = refl
both_equal Greater b = refl

kind_test : (k l : ReceiptKind) → is_eq (nat_cmp (number_of k) (number_of l)) ≡ same_kind l k
kind_test Read Read = refl
kind_test Read Private = refl
kind_test Private Read = refl
kind_test Private Private = refl

kinds_are : (k l : ReceiptKind) → same_kind k l ≡ true → k ≡ l
kinds_are Read Read h = refl
kinds_are Read Private h = absurd cc
kinds_are Private Read h = absurd cc
kinds_are Private Private h = refl

key_test : (who : List ℕ) (kind : ReceiptKind) (x : Receipt) → eq_by_cmp key_cmp (who, number_of kind) (key_of x) ≡ is_by who kind x
key_test who kind x =
    both_equal (slice_cmp nat_cmp who x.user) (nat_cmp (number_of kind) (number_of x.kind))
    ∙ ap₂ (λ a b. a && b) (text_test who x.user) (kind_test kind x.kind)

-- a content with its type
abbrev under : List ℕ → Json → List ℕ × Json
under kind c = (kind, c)

module _ (f : Selection) (user : List ℕ) (room : RoomId) where
  told_by : (who : List ℕ) (kind : ReceiptKind) (x : Receipt) → is_by who kind x ≡ true → sees f user x ≡ is_told f user who kind
  told_by who kind x is =
      let parts = and_parts (bytes_eq x.user who) (same_kind x.kind kind) is in
      ap₂ (λ u k. shows f && (not (is_private k) || bytes_eq u user)) (texts_are x.user who parts.0) (kinds_are x.kind kind parts.1)

  in_room : (who : List ℕ) (kind : ReceiptKind) (xs : List Receipt) → last_of (is_by who kind) (of_room room xs) ≡ last_of (is_for room who kind) xs
  in_room who kind xs =
      let inside : Receipt → Bool = λ x. same_room x.room room in
      last_of-same (is_by who kind) (is_for room who kind) (of_room room xs)
      (AllByRecursion-weaker (λ (x : Receipt). inside x ≡ true) (λ (x : Receipt). is_by who kind x ≡ is_for room who kind x)
      (λ x h. ap (λ b. (b && bytes_eq x.user who) && same_kind x.kind kind) (sym h)) (of_room room xs) (AllByRecursion-passed inside xs))
      ∙ last_of-filter (is_for room who kind) inside xs
      (AllByRecursion-every (λ (x : Receipt). is_for room who kind x ≡ true → inside x ≡ true)
      (λ x h. (and_parts (inside x) (bytes_eq x.user who) (and_parts (inside x && bytes_eq x.user who) (same_kind x.kind kind) h).0).0) xs)

  receipts_are : (who : List ℕ) (kind : ReceiptKind) (xs : List Receipt)
      → filter (is_by who kind) (receipts_in f user room xs) ≡ only (cond (is_told f user who kind) (last_of (is_for room who kind) xs) None)
  receipts_are who kind xs =
      let q : Key = (who, number_of kind) in
      let seen : List Receipt = filter (sees f user) (of_room room xs) in
      filter-same (is_by who kind) (λ x. eq_by_cmp key_cmp q (key_of x)) (receipts_in f user room xs)
      (AllByRecursion-every (λ (x : Receipt). is_by who kind x ≡ eq_by_cmp key_cmp q (key_of x)) (λ x. sym (key_test who kind x)) (receipts_in f user room xs))
      ∙ one_of_values key_cmp key_total key_exact key_of q seen
      ∙ ap only
      (last_of-same (λ x. eq_by_cmp key_cmp q (key_of x)) (is_by who kind) seen
      (AllByRecursion-every (λ (x : Receipt). eq_by_cmp key_cmp q (key_of x) ≡ is_by who kind x) (key_test who kind) seen)
      ∙ last_kept (is_by who kind) (sees f user) (is_told f user who kind) (told_by who kind) (of_room room xs)
      ∙ ap (λ o. cond (is_told f user who kind) o None) (in_room who kind xs))

  -- ---- account data

  abbrev is_type : List ℕ → Entry → Bool
  is_type kind e = bytes_eq (kind_of e) kind

  data_is : (kind : List ℕ) (e : Entry) → is_data_of user (Some room) kind e ≡ (is_of user (Some room) e && is_type kind e)
  data_is kind (entry.Data own_user own_room own_kind content at) = refl
  data_is kind (entry.Filter own_user id stored at) = refl

  typed : (kind : List ℕ) (e : Entry) → is_type kind e ≡ true → has_type f (kind_of e) ≡ has_type f kind
  typed kind e is = ap (has_type f) (texts_are (kind_of e) kind is)

  -- the last entry of a type among those that are sent
  last_sent : (kind : List ℕ) (es : List Entry)
      → last_of (is_type kind) (filter (is_sent f user room) es) ≡ cond (has_type f kind) (last_of (is_data_of user (Some room) kind) es) None
  last_sent kind es =
      let sent : List Entry = filter (is_sent f user room) es in
      let is-data : Entry → Bool = is_data_of user (Some room) kind in
      last_of-same (is_type kind) is-data sent
      (AllByRecursion-weaker (λ (e : Entry). is_sent f user room e ≡ true) (λ (e : Entry). is_type kind e ≡ is-data e)
      (λ e h. ap (λ b. b && is_type kind e) (sym (and_parts (is_of user (Some room) e) (has_type f (kind_of e)) h).0) ∙ sym (data_is kind e)) sent
      (AllByRecursion-passed (is_sent f user room) es))
      ∙ last_kept is-data (is_sent f user room) (has_type f kind)
      (λ e h.
      let parts = and_parts (is_of user (Some room) e) (is_type kind e) (sym (data_is kind e) ∙ h) in
      ap (λ b. b && has_type f (kind_of e)) parts.0 ∙ typed kind e parts.1) es

  valued : (kind : List ℕ) (told : Bool) (o : Option Entry)
      → only (option_map (under kind) (option_map content_of (cond told o None)))
      ≡ only (option_map (under kind) (cond told (option_map content_of o) None))
  valued kind true o = refl
  valued kind false o = refl

  account_is : (kind : List ℕ) (es : List Entry) → filter (λ (p : List ℕ × Json). bytes_eq p.0 kind) (account_in f user room es)
      ≡ only (option_map (under kind) (cond (has_type f kind) (option_map content_of (last_of (is_data_of user (Some room) kind) es)) None))
  account_is kind es =
      let sent : List Entry = filter (is_sent f user room) es in
      let all : List (List ℕ × Json) = account_in f user room es in
      filter-same (λ (p : List ℕ × Json). bytes_eq p.0 kind) (λ (p : List ℕ × Json). eq_by_cmp (slice_cmp nat_cmp) kind p.0) all
      (AllByRecursion-every (λ (p : List ℕ × Json). bytes_eq p.0 kind ≡ eq_by_cmp (slice_cmp nat_cmp) kind p.0) (λ p. sym (text_test kind p.0)) all)
      ∙ one_latest (slice_cmp nat_cmp) nat_list_cmp_total texts_exact kind_of content_of kind sent
      ∙ ap (λ o. only (option_map (under kind) (option_map content_of o)))
      (last_of-same (λ e. eq_by_cmp (slice_cmp nat_cmp) kind (kind_of e)) (is_type kind) sent
      (AllByRecursion-every (λ (e : Entry). eq_by_cmp (slice_cmp nat_cmp) kind (kind_of e) ≡ is_type kind e) (λ e. text_test kind (kind_of e)) sent)
      ∙ last_sent kind es)
      ∙ valued kind (has_type f kind) (last_of (is_data_of user (Some room) kind) es)

-- ---- at a token

pub rests_are : RestsAre
rests_are name user_of l placed user f room t before =
    let reach = before_parts t (fronts_of l) before in
    let there : rest.ArePlaced l = record { events = placed.events; receipts = placed.receipts; accounts = placed.accounts } in
    record {
      receipts = λ who kind.
          receipts_are f user room who kind (take t.r l.receipts)
          ∙ ap (λ xs. only (cond (is_told f user who kind) (last_of (is_for room who kind) xs) None))
          (sym (between-take receipt.position_of t.r l.receipts placed.receipts));
      account = λ kind.
          account_is f user room kind (take t.a l.accounts)
          ∙ ap (λ es. only (option_map (under kind)
          (cond (has_type f kind) (option_map content_of (last_of (is_data_of user (Some room) kind) es)) None)))
          (sym (between-take account.position_of t.a l.accounts placed.accounts));
      counts = counts_upto room user l there t reach.0 reach.1 reach.2;
      summary = summary_upto room user l there t reach.0 reach.1 reach.2;
    }
