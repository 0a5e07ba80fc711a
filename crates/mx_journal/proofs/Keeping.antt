-- What a log has after it was appended to and settled, and what a crash leaves of it.
use Rattle.std.proofs.Common.{◌≡◌, ℕ, ◌+◌, ◌-◌, ◌≤◌, zero, suc, List, [], ◌∷◌, ◌++◌, length, take, Option, Some, None, refl, sym, ap, ap₂, ◌∙◌, subst, arith, length-append}
use Rattle.std.proofs.lemmas.Option.{same_Some, none-some}
use Rattle.std.proofs.lemmas.List.{append-nil}
use Rattle.std.proofs.lemmas.Grind.{flat_map-append}
use Rattle.std.proofs.Math.Seq.{take-append-add, take-append_seam}
use Rattle.std.specs.List.{AllByRecursion}
use Rattle.mx_outside.specs.declared.sink.Put.TheVariants as put
use Rattle.mx_lines.specs.Lines.{IsOpen, file_of, line}
use Rattle.mx_lines.specs.Laws.{IsTorn}
use Rattle.mx_lines.proofs.Torn.{torn}
use Rattle.mx_log.specs.Logs.{Appends, Logged, Longer, MayLeave, Settles}
use Rattle.mx_journal.specs.Kept.{AreLines, HasKept, LeavesKept}

-- the first of the first items are the first of all
record First {A : Type 0} (xs whole : List A) : Type 0 where
  pub count : ℕ
  pub is : xs ≡ take count whole

shorter : {A : Type 0} (c n : ℕ) (xs : List A) → First (take c (take n xs)) xs
shorter zero n xs = record { count = 0; is = refl }
shorter (suc c) zero xs = record { count = 0; is = refl }
shorter (suc c) (suc n) [] = record { count = 0; is = refl }
shorter (suc c) (suc n) (x ∷ xs) = let more = shorter c n xs in record { count = suc more.count; is = ap (λ l. x ∷ l) more.is }

-- the whole file
lines_of : (bytes : List ℕ) (texts : List (List ℕ)) → AreLines bytes texts → bytes ≡ file_of texts
lines_of bytes texts are = are.whole ∙ append-nil (file_of texts)

-- what a crash leaves of settled lines and of some bytes from the front of others
left_torn : (texts more : List (List ℕ)) (a part b left : List ℕ) (count : ℕ) → AreLines a texts → AreLines b more → First part b → length a ≤ count → left ≡ take count (a ++ part) → IsTorn texts more left
left_torn texts more a part b left count first second is enough e =
    let c : ℕ = count - length a in
    let sum : count ≡ length a + c = omega (arith, enough) in
    let cut = shorter c is.count b in
    let tail : left ≡ a ++ take cut.count b =
    e ∙ (ap (λ k. take k (a ++ part)) sum ∙ (take-append-add a part c ∙ ap (λ l. a ++ l) (ap (take c) is.is ∙ cut.is))) in
    let whole : left ≡ take (length a + cut.count) (a ++ b) = tail ∙ sym (take-append-add a b cut.count) in
    let a_is = lines_of a texts first in
    let both : a ++ b ≡ file_of (texts ++ more) = ap₂ (λ x y. x ++ y) a_is (lines_of b more second) ∙ sym (flat_map-append line texts more) in
    let within : length (file_of texts) ≤ length a + cut.count = omega (arith, ap length a_is) in
    subst (IsTorn texts more) (sym (whole ∙ ap (take (length a + cut.count)) both)) (torn texts more (length a + cut.count) first.texts_open second.texts_open within)

-- ---- the calls of a log

-- the state before, of which the state after is told
record Before (o : Option Logged) (P : Logged → Type 0) : Type 0 where
  pub old : Logged
  pub is : o ≡ Some old
  pub does : P old

appended : (o n : Option Logged) (log : Logged) (lines : List ℕ) → n ≡ Some log → Appends o n put.Done lines → Before o (λ old. Longer old log lines)
appended None None log lines e h = absurd (none-some log e)
appended None (Some new) log lines e h = absurd h
appended (Some old) None log lines e h = absurd h
appended (Some old) (Some new) log lines e h = record { old = old; is = refl; does = subst (λ l. Longer old l lines) (same_Some new log e) h }

cut_short : (o n : Option Logged) (log : Logged) (lines : List ℕ) → n ≡ Some log → Appends o n put.Failed lines → Before o (λ old. (k : ℕ) × Longer old log (take k lines))
cut_short None None log lines e h = absurd (none-some log e)
cut_short None (Some new) log lines e h = absurd h
cut_short (Some old) None log lines e h = absurd h
cut_short (Some old) (Some new) log lines e h = record { old = old; is = refl; does = (h.0, subst (λ l. Longer old l (take h.0 lines)) (same_Some new log e) h.1) }

record Settled (old new : Logged) : Type 0 where
  pub bytes : new.bytes ≡ old.bytes
  pub settled : old.settled ≤ length old.bytes → old.settled ≤ new.settled

settled_done : (o n : Option Logged) (log : Logged) → n ≡ Some log → Settles o n put.Done → Before o (λ old. Settled old log)
settled_done None None log e h = absurd (none-some log e)
settled_done None (Some new) log e h = absurd h
settled_done (Some old) None log e h = absurd h
settled_done (Some old) (Some new) log e h =
    let same = same_Some new log e in
    record { old = old; is = refl; does = record { bytes = ap (λ (l : Logged). l.bytes) (sym same) ∙ h.0; settled = λ few. omega (arith, few, h.1, ap (λ (l : Logged). l.settled) same) } }

settled_failed : (o n : Option Logged) (log : Logged) → n ≡ Some log → Settles o n put.Failed → Before o (λ old. Settled old log)
settled_failed None None log e h = absurd (none-some log e)
settled_failed None (Some new) log e h = absurd h
settled_failed (Some old) None log e h = absurd h
settled_failed (Some old) (Some new) log e h =
    let same = same_Some new log e in
    record { old = old; is = refl; does = record { bytes = ap (λ (l : Logged). l.bytes) (sym same) ∙ h.0; settled = λ few. omega (arith, h.1, ap (λ (l : Logged). l.settled) same) } }

-- ---- what a crash leaves after them

pub torn_append : (o n : Option Logged) (lines : List ℕ) (texts more : List (List ℕ)) → Appends o n put.Failed lines → HasKept o texts → AreLines lines more → LeavesKept n texts more
torn_append o n lines texts more h has are log left e may =
    let was = cut_short o n log lines e h in
    let kept = has was.old was.is in
    let longer = was.does.1 in
    left_torn texts more was.old.bytes (take was.does.0 lines) lines left may.count kept.0 are (record { count = was.does.0; is = refl })
    (omega (arith, kept.1, longer.settled, may.enough)) (may.is ∙ ap (take may.count) longer.whole)

torn_after : (o m : Option Logged) (lines : List ℕ) (texts more : List (List ℕ)) (mid log : Logged) (left : List ℕ) → Appends o m put.Done lines → HasKept o texts → AreLines lines more → m ≡ Some mid → Settled mid log → MayLeave log left → IsTorn texts more left
torn_after o m lines texts more mid log left h has are e after may =
    let was = appended o m mid lines e h in
    let kept = has was.old was.is in
    let longer = was.does in
    let size : length mid.bytes ≡ length was.old.bytes + length lines = ap length longer.whole ∙ length-append was.old.bytes lines in
    let few : mid.settled ≤ length mid.bytes = omega (arith, size, longer.settled, kept.1) in
    left_torn texts more was.old.bytes lines lines left may.count kept.0 are (record { count = length lines; is = sym (take-append_seam lines []) ∙ ap (take (length lines)) (append-nil lines) })
    (omega (arith, kept.1, longer.settled, after.settled few, may.enough)) (may.is ∙ ap (take may.count) (after.bytes ∙ longer.whole))

pub torn_done : (o m n : Option Logged) (lines : List ℕ) (texts more : List (List ℕ)) → Appends o m put.Done lines → Settles m n put.Done → HasKept o texts → AreLines lines more → LeavesKept n texts more
torn_done o m n lines texts more h settles has are log left e may =
    let mid = settled_done m n log e settles in
    torn_after o m lines texts more mid.old log left h has are mid.is mid.does may

pub torn_failed : (o m n : Option Logged) (lines : List ℕ) (texts more : List (List ℕ)) → Appends o m put.Done lines → Settles m n put.Failed → HasKept o texts → AreLines lines more → LeavesKept n texts more
torn_failed o m n lines texts more h settles has are log left e may =
    let mid = settled_failed m n log e settles in
    torn_after o m lines texts more mid.old log left h has are mid.is mid.does may

-- nothing was done
pub torn_before : (o : Option Logged) (texts more : List (List ℕ)) → HasKept o texts → AllByRecursion IsOpen more → LeavesKept o texts more
torn_before o texts more has more_open log left e may =
    let kept = has log e in
    left_torn texts more log.bytes [] (file_of more) left may.count kept.0 (record { whole = sym (append-nil (file_of more)); texts_open = more_open; rest_open = refl })
    (record { count = 0; is = refl }) (omega (arith, kept.1, may.enough)) (may.is ∙ ap (take may.count) (sym (append-nil log.bytes)))
