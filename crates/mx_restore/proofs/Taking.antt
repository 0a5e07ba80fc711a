-- How far a journal was read, batch after batch.
use Rattle.std.proofs.Common.{◌≡◌, ℕ, ◌+◌, ◌^◌, ◌<◌, List, [], ◌∷◌, ◌++◌, length, drop, Option, Some, None, Result, refl, sym, ap, ◌∙◌, subst, arith, length-append, append_assoc}
use Rattle.std.proofs.lemmas.List.{append-nil}
use Rattle.std.proofs.lemmas.Option.{same_Some, none-some}
use Rattle.std.proofs.lemmas.Grind.{flat_map-append}
use Rattle.std.proofs.Math.Seq.{drop-append_seam}
use Rattle.std.specs.Io.KnownBytes.{Consumes, IsAtEnd}
use Rattle.std.specs.List.{AllByRecursion}
use Rattle.std.specs.Prelude.{IfErr, IfOk}
use Rattle.mx_fold.specs.Lists.{Histories}
use Rattle.mx_lines.specs.Lines.{IsOpen, file_of, line}
use Rattle.mx_outside.specs.Causes.{Rose}
use Rattle.mx_ids.specs.declared.users.Users.{Users}
use Rattle.mx_json.specs.Reading.{read_json}
use Rattle.mx_restore.specs.Batches.{AreLinesOf, HasReadMore, IsLineOf, StopsAt}
use Rattle.mx_restore.specs.Faults.{HasCause}
use Rattle.mx_restore.specs.Made.{HasMade, HasTaken, IsAhead, IsFar, MakesLine, MakesLines, devices_after, devices_read, ended_at, no_lines}
use Rattle.mx_restore.specs.Restored.{CountsWhole, Restores, counted}
use Rattle.mx_restore.specs.declared.reading.ReadLine.{ReadLine}
use Rattle.mx_restore.specs.declared.reading.Stopped.{Stopped}
use Rattle.mx_restore.specs.declared.reading.Stopped.TheVariants as stop
use Rattle.mx_restore.specs.declared.restoring.Restored.{Restored}
use Rattle.mx_restore.specs.declared.wrong.RestoreFault.{RestoreFault}
use Rattle.mx_restore.proofs.Batches.{joined}
use Rattle.mx_restore.proofs.Making.{made_all, made_none, made_one, takes_text}

-- ---- lines, one after the other

counted_none : (n : ℕ) → n < 2 ^ 64 → n ≡ counted n 0
counted_none n few = omega (arith, few)

counted_few : (m n more : ℕ) → m ≡ counted n more → m < 2 ^ 64
counted_few m n more is = omega (arith, is)

counted_more : (n k more all : ℕ) → all ≡ k + more → counted (counted n k) more ≡ counted n all
counted_more n k more all is = omega (arith, is)

joined_length : (ts us : List (List ℕ)) → length (file_of (ts ++ us)) ≡ length (file_of ts) + length (file_of us)
joined_length ts us = ap length (flat_map-append line ts us) ∙ length-append (file_of ts) (file_of us)

devices_all : (users : Users) (from : ℕ) (ts us : List (List ℕ)) → devices_after users from (ts ++ us) ≡ devices_after users (devices_after users from ts) us
devices_all users from [] us = refl
devices_all users from (t ∷ ts) us = devices_all users (devices_read users from (read_json t)) ts us

module _ (users : Users) where
  pub all_made : (ts us : List (List ℕ)) (before mid after : Restored) (old seen new : Histories) → HasMade users ts before mid old seen → HasMade users us mid after seen new → HasMade users (ts ++ us) before after old new
  all_made ts us before mid after old seen new h k = record {
    made = made_all ts us old seen new h.made k.made;
    bytes = λ few. k.bytes (counted_few mid.bytes before.bytes (length (file_of ts)) (h.bytes few)) ∙ (ap (λ n. counted n (length (file_of us))) (h.bytes few)
        ∙ counted_more before.bytes (length (file_of ts)) (length (file_of us)) (length (file_of (ts ++ us))) (joined_length ts us));
    lines = λ few. k.lines (counted_few mid.lines before.lines (length ts) (h.lines few)) ∙ (ap (λ n. counted n (length us)) (h.lines few)
        ∙ counted_more before.lines (length ts) (length us) (length (ts ++ us)) (length-append ts us));
    devices = k.devices ∙ (ap (λ n. devices_after users n us) h.devices ∙ sym (devices_all users before.devices ts us));
  }

  pub none_made : (far : Restored) (h : Histories) → HasMade users [] far far h h
  none_made far h = record { made = made_none h; bytes = counted_none far.bytes; lines = counted_none far.lines; devices = refl }

  pub one_made : (t : List ℕ) (l : ReadLine) (before after : Restored) (old new : Histories) → IsLineOf t l → MakesLine users l before after old new → HasMade users (t ∷ []) before after old new
  one_made t l before after old new is h =
      let one : file_of (t ∷ []) ≡ line t = append-nil (line t) in
      record {
        made = made_one t old new (takes_text t is.2.0 old new is.2.1 (h.taken is.2.0 is.2.2));
        bytes = λ few. h.bytes ∙ ap (counted before.bytes) (ap length (is.1 ∙ sym one));
        lines = λ few. h.lines;
        devices = h.devices is.2.0 is.2.2 ∙ ap (devices_read users before.devices) (sym is.2.1);
      }

  pub no_lines_made : (far : Restored) (h : Histories) → MakesLines users [] far far h h
  no_lines_made far h [] are = none_made far h
  no_lines_made far h (t ∷ ts) are = absurd are

  pub line_made : (l : ReadLine) (ls : List ReadLine) (before mid after : Restored) (old seen new : Histories) → MakesLine users l before mid old seen → MakesLines users ls mid after seen new
      → MakesLines users (l ∷ ls) before after old new
  line_made l ls before mid after old seen new h k [] are = absurd are
  line_made l ls before mid after old seen new h k (t ∷ ts) are = all_made (t ∷ []) ts before mid after old seen new (one_made t l before mid old seen are.0 h) (k ts are.1)

-- ---- the bytes of a log, batch after batch

pub far_begun : (users : Users) (told : Option (List ℕ)) (h : Histories) → IsFar users told told [] no_lines h h
far_begun users told h = record { each = λ all is. record { more = all; is_left = is; taken = record { texts = []; whole = refl; texts_open = tt; made = none_made users no_lines h } } }

consumed : (old new : Option (List ℕ)) (rest piece : List ℕ) → old ≡ Some rest → Consumes old new piece → (more : List ℕ) × (new ≡ Some more) × (rest ≡ piece ++ more)
consumed None new rest piece is h = absurd (none-some rest is)
consumed (Some xs) None rest piece is h = absurd h
consumed (Some xs) (Some ys) rest piece is h = (ys, refl, sym (same_Some xs rest is) ∙ h)

-- lines that were read of what was left
pub far_read : (users : Users) (told left next : Option (List ℕ)) (bytes rest : List ℕ) (lines : List ReadLine) (far : Restored) (old new : Histories) → IsFar users told left bytes far old new → HasReadMore left next bytes rest [] lines
    → IsAhead users told next lines rest far old new
far_read users told left next bytes rest lines far old new h more =
    let read = more.read in
    record {
      texts = read.texts;
      are = subst (AreLinesOf read.texts) (sym read.added) read.are;
      far_is = record {
        each = λ all e.
            let before = h.each all e in
            let moved = consumed left next before.more more.piece before.is_left more.taken in
            let same : bytes ++ before.more ≡ (file_of read.texts ++ rest) ++ moved.0 = ap (λ l. bytes ++ l) moved.2 ∙ (sym (append_assoc bytes more.piece moved.0) ∙ ap (λ l. l ++ moved.0) read.whole) in
            record { more = moved.0; is_left = moved.1; taken = subst (λ l. HasTaken users all l far old new) same before.taken };
      };
    }

pub all_open : (xs ys : List (List ℕ)) → AllByRecursion IsOpen xs → AllByRecursion IsOpen ys → AllByRecursion IsOpen (xs ++ ys)
all_open [] ys h k = k
all_open (x ∷ xs) ys h k = (h.0, all_open xs ys h.1 k)

pub are_open : (ts : List (List ℕ)) (ls : List ReadLine) → AreLinesOf ts ls → AllByRecursion IsOpen ts
are_open [] ls h = tt
are_open (t ∷ ts) [] h = absurd h
are_open (t ∷ ts) (l ∷ ls) h = (h.0.0, are_open ts ls h.1)

-- the stores of lines that were read
pub far_made : (users : Users) (told left : Option (List ℕ)) (lines : List ReadLine) (rest : List ℕ) (far after : Restored) (old mid new : Histories) → IsAhead users told left lines rest far old mid → MakesLines users lines far after mid new
    → IsFar users told left rest after old new
far_made users told left lines rest far after old mid new h makes = record {
  each = λ all e.
      let before = h.far_is.each all e in
      let taken = before.taken in
      record {
        more = before.more;
        is_left = before.is_left;
        taken = record {
          texts = taken.texts ++ h.texts;
          whole = joined all ((file_of h.texts ++ rest) ++ before.more) (rest ++ before.more) taken.texts h.texts taken.whole (append_assoc (file_of h.texts) rest before.more);
          texts_open = all_open taken.texts h.texts taken.texts_open (are_open h.texts lines h.are);
          made = all_made users taken.texts h.texts no_lines far after old mid new taken.made (makes h.texts h.are);
        };
      };
}

-- no bytes are left
none_left : (left : Option (List ℕ)) (more : List ℕ) → left ≡ Some more → IsAtEnd left → more ≡ []
none_left None more is ends = absurd (none-some more is)
none_left (Some xs) more is ends = sym (same_Some xs more is) ∙ ends

far_ended : (users : Users) (told left : Option (List ℕ)) (rest : List ℕ) (far : Restored) (old new : Histories) → IsFar users told left rest far old new → IsAtEnd left → (all : List ℕ) → told ≡ Some all → HasTaken users all rest far old new
far_ended users told left rest far old new h ends all e =
    let now = h.each all e in
    subst (λ l. HasTaken users all l far old new) (ap (λ l. rest ++ l) (none_left left now.more now.is_left ends) ∙ append-nil rest) now.taken

pub far_restores : (users : Users) (told left : Option (List ℕ)) (rest : List ℕ) (far : Restored) (old new : Histories) → IsFar users told left rest far old new → IsAtEnd left → IsOpen rest → Restores told old new
far_restores users told left rest far old new h ends opens all e =
    let now = far_ended users told left rest far old new h ends all e in
    record { texts = now.texts; rest = rest; is = record { whole = now.whole; texts_open = now.texts_open; rest_open = opens }; made = now.made.made }

pub far_counts : (users : Users) (told left : Option (List ℕ)) (rest : List ℕ) (far : Restored) (old new : Histories) → IsFar users told left rest far old new → IsAtEnd left → IsOpen rest → CountsWhole told far.bytes
far_counts users told left rest far old new h ends opens all e few =
    let now = far_ended users told left rest far old new h ends all e in
    let sum : length all ≡ length (file_of now.texts) + length rest = ap length now.whole ∙ length-append (file_of now.texts) rest in
    let count : far.bytes ≡ length (file_of now.texts) = omega (arith, sum, few, now.made.bytes (omega arith)) in
    let behind : drop far.bytes all ≡ rest = ap (λ k. drop k all) count ∙ (ap (λ l. drop (length (file_of now.texts)) l) now.whole ∙ drop-append_seam (file_of now.texts) rest) in
    record {
      texts = now.texts;
      is = record { whole = now.whole ∙ ap (λ l. file_of now.texts ++ l) (sym behind); texts_open = now.texts_open; rest_open = subst IsOpen (sym behind) opens };
      lines = count;
    }

-- ---- what a start comes to in the end

pub ended_restores : (users : Users) (told left : Option (List ℕ)) (rest : List ℕ) (far : Restored) (old new : Histories) (s : Stopped) (r : Result Restored RestoreFault) → r ≡ ended_at far s → IsFar users told left rest far old new → StopsAt s rest
    → (s ≡ stop.End → IsAtEnd left) → (s ≡ stop.Open → ⊥) → IfOk r (λ f. Restores told old new)
ended_restores users told left rest far old new s r is h stops ends more = subst (λ q. IfOk q (λ f. Restores told old new)) (sym is) (by_stop s stops ends more) where
  by_stop : (s : Stopped) → StopsAt s rest → (s ≡ stop.End → IsAtEnd left) → (s ≡ stop.Open → ⊥) → IfOk (ended_at far s) (λ f. Restores told old new)
  by_stop stop.Open stops ends more = absurd (more refl)
  by_stop stop.End stops ends more = far_restores users told left rest far old new h (ends refl) stops
  by_stop (stop.Wrong w) stops ends more = tt
  by_stop stop.Failed stops ends more = tt
  by_stop (stop.Memory refused) stops ends more = tt

pub ended_counts : (users : Users) (told left : Option (List ℕ)) (rest : List ℕ) (far : Restored) (old new : Histories) (s : Stopped) (r : Result Restored RestoreFault) → r ≡ ended_at far s → IsFar users told left rest far old new → StopsAt s rest
    → (s ≡ stop.End → IsAtEnd left) → (s ≡ stop.Open → ⊥) → IfOk r (λ f. CountsWhole told f.bytes)
ended_counts users told left rest far old new s r is h stops ends more = subst (λ q. IfOk q (λ f. CountsWhole told f.bytes)) (sym is) (by_stop s stops ends more) where
  by_stop : (s : Stopped) → StopsAt s rest → (s ≡ stop.End → IsAtEnd left) → (s ≡ stop.Open → ⊥) → IfOk (ended_at far s) (λ f. CountsWhole told f.bytes)
  by_stop stop.Open stops ends more = absurd (more refl)
  by_stop stop.End stops ends more = far_counts users told left rest far old new h (ends refl) stops
  by_stop (stop.Wrong w) stops ends more = tt
  by_stop stop.Failed stops ends more = tt
  by_stop (stop.Memory refused) stops ends more = tt

pub ended_for : (far : Restored) (s : Stopped) (before after : ℕ) (r : Result Restored RestoreFault) → r ≡ ended_at far s → (s ≡ stop.Failed → Rose before after) → IfErr r (λ fault. HasCause fault before after)
ended_for far s before after r is rose = subst (λ q. IfErr q (λ fault. HasCause fault before after)) (sym is) (by_stop s rose) where
  by_stop : (s : Stopped) → (s ≡ stop.Failed → Rose before after) → IfErr (ended_at far s) (λ fault. HasCause fault before after)
  by_stop stop.Open rose = tt
  by_stop stop.End rose = tt
  by_stop (stop.Wrong w) rose = tt
  by_stop stop.Failed rose = rose refl
  by_stop (stop.Memory refused) rose = tt
