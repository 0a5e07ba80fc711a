-- What a sync that waits was told stays told where nothing came that concerns its user.
use Rattle.std.proofs.Common.{◌≡◌, if◌then◌else◌, ℕ, zero, suc, ◌<◌, ◌≤◌, Bool, true, false, List, [], ◌∷◌, Option, Some, None, length, take, nat_lt, option_and_then, refl, sym, ap, subst, ◌∙◌, inl, inr, arith}
use Rattle.std.specs.Option.{option_or}
use Rattle.std.proofs.lemmas.Bool.{cases_Bool, ltb-false, ltb-true}
use Rattle.std.proofs.lemmas.List.{length-append, length-take-le, take-append-le, take_all}
use Rattle.mx_ids.specs.declared.sync_token.SyncToken.{SyncToken}
use Rattle.mx_json.specs.declared.value.Json.{Json}
use Rattle.mx_account.specs.Values as entries
use Rattle.mx_account.specs.declared.entry.Entry.{Entry}
use Rattle.mx_core.specs.Covered.{covered}
use Rattle.mx_core.specs.History.{Begins}
use Rattle.mx_core.proofs.Covering.{covered_begins}
use Rattle.mx_event.specs.Shown.{position_of}
use Rattle.mx_receipt.specs.Receipts as receipt
use Rattle.mx_window.specs.Windows.{stand_from}
use Rattle.mx_view.specs.Tokens.{is_before}
use Rattle.mx_view.proofs.Orders.{before_from, before_parts, before_self, before_trans}
use Rattle.mx_filter.specs.declared.parts.Filter.{Filter}
use Rattle.mx_fold.specs.Lists.{Grows, Histories, Lists, fronts_of, lists_of, upto}
use Rattle.mx_sync.specs.Asks as sync
use Rattle.mx_sync.specs.Replies.{reply_of}
use Rattle.mx_ask.specs.declared.ask.FilterAsk.{FilterAsk}
use Rattle.mx_ask.specs.declared.ask.FilterAsk.TheVariants as asks
use Rattle.mx_ask.specs.declared.said.Said.TheVariants as said
use Rattle.mx_engine.specs.Acts.Reads.{sync_ask, sync_by, sync_said, sync_told, unless_ahead}
use Rattle.mx_engine.specs.UserReads.Filters.{filter_for, filter_in, filter_named, filter_read, first_filter, number_of}
use Rattle.mx_engine.specs.Still.Concerns.{is_still}
use Rattle.mx_engine.proofs.Still.Emptying.{stays_empty}
use Rattle.mx_poll.specs.Polls.{IsPolled, said_of}
use Rattle.mx_poll.specs.Waits.{tells_nothing}
use Rattle.mx_poll.specs.declared.states.SyncPoll.{SyncPoll}

-- ---- a token that isn't ahead

not_ahead : (f t : ℕ) → nat_lt f t ≡ false → t ≤ f
not_ahead f t h = ltb-false f t h

none_ahead : (a b c d : Bool) (x y z w : ℕ × ℕ)
    → (if a then Some x else (if b then Some y else (if c then Some z else (if d then Some w else None)))) ≡ None
    → (a ≡ false) × (b ≡ false) × (c ≡ false) × (d ≡ false)
none_ahead true b c d x y z w h = absurd cc
none_ahead false true c d x y z w h = absurd cc
none_ahead false false true d x y z w h = absurd cc
none_ahead false false false true x y z w h = absurd cc
none_ahead false false false false x y z w h = (refl, refl, refl, refl)

before_fronts : (s fronts : SyncToken) → sync.ahead_in s fronts ≡ None → is_before s fronts ≡ true
before_fronts s fronts h =
    let four = none_ahead (nat_lt fronts.e s.e) (nat_lt fronts.r s.r) (nat_lt fronts.a s.a) (nat_lt fronts.d s.d) (s.e, fronts.e) (s.r, fronts.r) (s.a, fronts.a)
    (s.d, fronts.d) h in
    before_from s fronts (not_ahead fronts.e s.e four.0) (not_ahead fronts.r s.r four.1) (not_ahead fronts.a s.a four.2) (not_ahead fronts.d s.d four.3)

reached : (f t : ℕ) → t ≤ f → nat_lt f t ≡ false
reached f t h = elim (cases_Bool (nat_lt f t)) [
  | inl is ↦ let b : f < t = ltb-true f t is in absurd (omega (arith, h, b))
  | inr is ↦ is
]

not_before_ahead : (s fronts : SyncToken) → is_before s fronts ≡ true → sync.ahead_in s fronts ≡ None
not_before_ahead s fronts h =
    let parts = before_parts s fronts h in
    let e = reached fronts.e s.e parts.0 in
    let r = reached fronts.r s.r parts.1 in
    let a = reached fronts.a s.a parts.2 in
    let d = reached fronts.d s.d parts.3 in
    ap (λ b. if b then Some (s.e, fronts.e) else (if nat_lt fronts.r s.r then Some (s.r, fronts.r) else (if nat_lt fronts.a s.a then Some (s.a, fronts.a) else (
    if nat_lt fronts.d s.d then Some (s.d, fronts.d) else None)))) e
    ∙ ap (λ b. if b then Some (s.r, fronts.r) else (if nat_lt fronts.a s.a then Some (s.a, fronts.a) else (if nat_lt fronts.d s.d then Some (s.d, fronts.d) else None))) r
    ∙ ap (λ b. if b then Some (s.a, fronts.a) else (if nat_lt fronts.d s.d then Some (s.d, fronts.d) else None)) a
    ∙ ap (λ b. if b then Some (s.d, fronts.d) else None) d

-- ---- the filter that is asked by

first_taken : (user : List ℕ) (number i : ℕ) (es : List Entry) (j : Json) → first_filter user number (take i es) ≡ Some j → first_filter user number es ≡ Some j
first_taken user number zero es j h = absurd cc
first_taken user number (suc i) [] j h = absurd cc
first_taken user number (suc i) (e ∷ es) j h = by (filter_in user number e) (first_taken user number i es j) h where
  by : (o : Option Json) → (first_filter user number (take i es) ≡ Some j → first_filter user number es ≡ Some j)
      → option_or o (first_filter user number (take i es)) ≡ Some j → option_or o (first_filter user number es) ≡ Some j
  by None later is = later is
  by (Some k) later is = is

named_kept : (t : SyncToken) (l : Lists) (user id : List ℕ) (f : Filter) → filter_named (upto t l) user (Some id) ≡ Some f → filter_named l user (Some id) ≡ Some f
named_kept t l user id f h = by (number_of id) h where
  read : (number : ℕ) (o : Option Json) → first_filter user number (take t.a l.accounts) ≡ o → option_and_then filter_read o ≡ Some f
      → option_and_then filter_read (first_filter user number l.accounts) ≡ Some f
  read number None is h = absurd cc
  read number (Some j) is h = ap (option_and_then filter_read) (first_taken user number t.a l.accounts j is) ∙ h

  by : (o : Option ℕ) → option_and_then filter_read (option_and_then (λ number. first_filter user number (take t.a l.accounts)) o) ≡ Some f
      → option_and_then filter_read (option_and_then (λ number. first_filter user number l.accounts) o) ≡ Some f
  by None is = absurd cc
  by (Some number) is = read number (first_filter user number (take t.a l.accounts)) refl is

filter_kept : (t : SyncToken) (l : Lists) (user : List ℕ) (a : FilterAsk) (f : Filter) → filter_for (upto t l) user a ≡ Some f → filter_for l user a ≡ Some f
filter_kept t l user asks.Absent f h = h
filter_kept t l user (asks.Stored id) f h = named_kept t l user id f h
filter_kept t l user (asks.Inline filter) f h = h

-- ---- what is told

module _ (l : Lists) (user : List ℕ) (after : Bool) (s t : SyncToken) (events : stand_from position_of 1 l.events ≡ true) (receipts : receipt.AreInPlace l.receipts)
    (accounts : entries.AreInPlace l.accounts) (up : is_before t (fronts_of l) ≡ true) (still : is_still user l t ≡ true) where
  reach : (t.e ≤ length l.events) × (t.r ≤ length l.receipts) × (t.a ≤ length l.accounts) × (t.d ≤ 0)
  reach = before_parts t (fronts_of l) up

  -- the token is behind the fronts at which it was told
  low_by : is_before s (fronts_of (upto t l)) ≡ true → is_before s t ≡ true
  low_by h =
      let parts = before_parts s (fronts_of (upto t l)) h in
      let d : s.d ≤ 0 = parts.3 in
      before_from s t (subst (λ n. s.e ≤ n) (length-take-le t.e l.events reach.0) parts.0) (subst (λ n. s.r ≤ n) (length-take-le t.r l.receipts reach.1) parts.1)
      (subst (λ n. s.a ≤ n) (length-take-le t.a l.accounts reach.2) parts.2) (omega (arith, d))

  by_filter : (f : Filter) → tells_nothing (sync_told (upto t l) user (sync_ask (Some s) false after f)) ≡ true → tells_nothing (sync_told l user (sync_ask (Some s) false after f)) ≡ true
  by_filter f h = by_ahead (sync.ahead_in s (fronts_of (upto t l))) refl h where
    by_ahead : (o : Option (ℕ × ℕ)) → sync.ahead_in s (fronts_of (upto t l)) ≡ o
        → tells_nothing (unless_ahead o (said.Synced (reply_of (upto t l) user (sync_ask (Some s) false after f)))) ≡ true
        → tells_nothing (sync_told l user (sync_ask (Some s) false after f)) ≡ true
    by_ahead (Some p) is h = absurd cc
    by_ahead None is h =
        let low : is_before s t ≡ true = low_by (before_fronts s (fronts_of (upto t l)) is) in
        ap (λ o. tells_nothing (unless_ahead o (said.Synced (reply_of l user (sync_ask (Some s) false after f)))))
        (not_before_ahead s (fronts_of l) (before_trans s t (fronts_of l) low up))
        ∙ stays_empty l user (sync_ask (Some s) false after f) s t events receipts accounts refl low up still h

  by_filters : (old new : Option Filter) → ((f : Filter) → old ≡ Some f → new ≡ Some f) → tells_nothing (sync_by (upto t l) user (Some s) false after old) ≡ true
      → tells_nothing (sync_by l user (Some s) false after new) ≡ true
  by_filters None new same h = absurd cc
  by_filters (Some f) new same h = ap (λ o. tells_nothing (sync_by l user (Some s) false after o)) (same f refl) ∙ by_filter f h

  told_still : (filter : FilterAsk) → tells_nothing (sync_said (upto t l) user (Some s) filter false after) ≡ true → tells_nothing (sync_said l user (Some s) filter false after) ≡ true
  unfolding sync_said
  told_still filter h = by_filters (filter_for (upto t l) user filter) (filter_for l user filter) (filter_kept t l user filter) h

-- nothing came that concerns the user
pub still_told : (p : SyncPoll) (l : Lists) → stand_from position_of 1 l.events ≡ true → receipt.AreInPlace l.receipts → entries.AreInPlace l.accounts
    → IsPolled p l → is_still p.user l p.empty_at ≡ true → tells_nothing (said_of p l) ≡ true
still_told p l events receipts accounts polled still = told_still l p.user p.after p.since p.empty_at events receipts accounts polled.up still p.filter polled.empty

-- ---- the state

all_taken : {A : Type 0} (xs : List A) → take (length xs) xs ≡ xs
all_taken xs = take_all (length xs) xs (omega arith)

-- it was told so just now
pub polled_now : (p : SyncPoll) (l : Lists) → p.empty_at ≡ fronts_of l → tells_nothing (said_of p l) ≡ true → IsPolled p l
polled_now p l at empty = record {
  up = ap (λ (t : SyncToken). is_before t (fronts_of l)) at ∙ before_self (fronts_of l) (fronts_of l) refl refl refl refl;
  empty = ap (λ (t : SyncToken). tells_nothing (said_of p (upto t l))) at
      ∙ ap (λ (m : Lists). tells_nothing (said_of p m)) (λ i. record { events = all_taken l.events i; receipts = all_taken l.receipts i; accounts = all_taken l.accounts i })
      ∙ empty;
}

first_same : {A : Type 0} (n : ℕ) (xs ys : List A) → n ≤ length xs → Begins xs ys → take n xs ≡ take n ys
first_same n xs ys within b = sym (ap (take n) b.1 ∙ take-append-le n xs b.0 within)

longer : {A : Type 0} (xs ys : List A) → Begins xs ys → length xs ≤ length ys
longer xs ys b = omega (arith, ap length b.1, length-append xs b.0)

-- more was seen
pub polled_grows : (p : SyncPoll) (old new : Histories) → IsPolled p (lists_of old) → Grows old new → IsPolled p (lists_of new)
polled_grows p old new h g =
    let e = covered_begins old.events new.events g.events in
    let r = covered_begins old.receipts new.receipts g.receipts in
    let a = covered_begins old.accounts new.accounts g.accounts in
    let reach = before_parts p.empty_at (fronts_of (lists_of old)) h.up in
    let same : upto p.empty_at (lists_of old) ≡ upto p.empty_at (lists_of new) =
    λ i. record {
      events = first_same p.empty_at.e (covered old.events) (covered new.events) reach.0 e i;
      receipts = first_same p.empty_at.r (covered old.receipts) (covered new.receipts) reach.1 r i;
      accounts = first_same p.empty_at.a (covered old.accounts) (covered new.accounts) reach.2 a i;
    } in
    record {
      up = before_trans p.empty_at (fronts_of (lists_of old)) (fronts_of (lists_of new)) h.up
          (before_from (fronts_of (lists_of old)) (fronts_of (lists_of new)) (longer (covered old.events) (covered new.events) e)
          (longer (covered old.receipts) (covered new.receipts) r) (longer (covered old.accounts) (covered new.accounts) a) (omega arith));
      empty = ap (λ (m : Lists). tells_nothing (said_of p m)) (sym same) ∙ h.empty;
    }
