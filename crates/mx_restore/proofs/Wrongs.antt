-- Lines that are wrong.
use Rattle.std.proofs.Common.{◌≡◌, inl, inr, ℕ, ◌+◌, ◌&&◌, List, [], ◌∷◌, ◌++◌, length, Option, Some, Result, refl, sym, ap, subst, ◌∙◌, arith, length-append, append_assoc}
use Rattle.std.proofs.lemmas.Grind.{flat_map-append}
use Rattle.std.proofs.lemmas.List.{take-append-le}
use Rattle.std.specs.List.{AllByRecursion}
use Rattle.std.specs.Prelude.{IfErr}
use Rattle.mx_aims.specs.Asked.{Site}
use Rattle.mx_engine.specs.declared.record.Record.{Record}
use Rattle.mx_fold.specs.Lists.{Histories}
use Rattle.mx_json.specs.declared.value.Json.{Json}
use Rattle.mx_lines.specs.Lines.{IsOpen, file_of, line}
use Rattle.mx_log.specs.Logs.{Logged, Opens}
use Rattle.mx_restore.specs.Batches.{AreLinesOf, IsMisread, IsSaidBy, StopsAt}
use Rattle.mx_restore.specs.Faults.{IsOfLines, IsOfLog, IsOfOpening}
use Rattle.mx_restore.specs.Heads.{is_head}
use Rattle.mx_restore.specs.Made.{IsAhead, IsFar, MakesLine, devices_after, ended_at, no_lines}
use Rattle.mx_restore.specs.Restored.{counted}
use Rattle.mx_restore.specs.Wrongs.{FailsAt, IsNoStore, IsRefused, IsUnmade, IsWrongAt, IsWrongLine, IsWrongText, IsWrongValue, TellsWrong}
use Rattle.mx_restore.specs.declared.reading.LineSaid.TheVariants as line_said
use Rattle.mx_restore.specs.declared.reading.ReadLine.{ReadLine}
use Rattle.mx_restore.specs.declared.reading.Stopped.{Stopped}
use Rattle.mx_restore.specs.declared.reading.Stopped.TheVariants as stop
use Rattle.mx_restore.specs.declared.restoring.Restored.{Restored}
use Rattle.mx_restore.specs.declared.wrong.RestoreFault.{RestoreFault}
use Rattle.mx_restore.specs.declared.wrong.RestoreFault.TheVariants.{Busy, Failed, Line, Memory}
use Rattle.mx_restore.specs.declared.wrong.Wrong.{Wrong}
use Rattle.mx_restore.specs.declared.wrong.Wrong.TheVariants as wrong
use Rattle.mx_restore.proofs.Batches.{joined}
use Rattle.mx_restore.proofs.Taking.{all_made, all_open, are_open, none_made, one_made}

-- ---- lines that were read, one after the other

first_fails : (site : Site) (l : ReadLine) (ls : List ReadLine) (far : Restored) (lists : Histories) (number : ℕ) (w : Wrong) → ((j : Json) → IsSaidBy j l.said → IsRefused site far j (Line number w)) → (texts : List (List ℕ)) → AreLinesOf texts (l ∷ ls)
    → FailsAt site texts far lists number w
first_fails site l ls far lists number w h [] are = absurd are
first_fails site l ls far lists number w h (t ∷ ts) are =
    let said = are.0.2 in
    let is = h said.0 said.2 in
    record { front = []; text = t; behind = ts; whole = refl; mid = far; lists = lists; made = none_made site.users far lists; value = said.0; read = said.1; number_is = is.0; is = is.1 }

pub first_refused : (site : Site) (l : ReadLine) (ls : List ReadLine) (far : Restored) (lists : Histories) (f : RestoreFault) → IsOfLines f → ((j : Json) → IsSaidBy j l.said → IsRefused site far j f) → IsUnmade site (l ∷ ls) far lists f
first_refused site l ls far lists Busy of h = absurd of
first_refused site l ls far lists (Line number w) of h = first_fails site l ls far lists number w h
first_refused site l ls far lists Failed of h = absurd of
first_refused site l ls far lists (Memory refused) of h = tt

-- of a store that a line says
pub store_refused : (site : Site) (far : Restored) (r : Record) (f : RestoreFault) → IsNoStore far.lines f → (j : Json) → IsSaidBy j (line_said.Store r) → IsRefused site far j f
store_refused site far r Busy why j is = why
store_refused site far r (Line n wrong.Check) why j is = absurd why
store_refused site far r (Line n wrong.Long) why j is = absurd why
store_refused site far r (Line n wrong.Head) why j is = (why.0, (why.1, ap (λ b. b && is_head site.users.server site.writers j) is.1.0))
store_refused site far r (Line n wrong.Devices) why j is = absurd why
store_refused site far r (Line n wrong.Text) why j is = absurd why
store_refused site far r (Line n (wrong.Store cause)) why j is = (why.0, ((why.1, is.1.1), (r, is.0)))
store_refused site far r Failed why j is = why
store_refused site far r (Memory refused) why j is = tt

later_fails : (site : Site) (l : ReadLine) (ls : List ReadLine) (before mid : Restored) (old seen : Histories) (number : ℕ) (w : Wrong) → MakesLine site.users l before mid old seen → IsUnmade site ls mid seen (Line number w)
    → (texts : List (List ℕ)) → AreLinesOf texts (l ∷ ls) → FailsAt site texts before old number w
later_fails site l ls before mid old seen number w h k [] are = absurd are
later_fails site l ls before mid old seen number w h k (t ∷ ts) are =
    let fails = k ts are.1 in
    record {
      front = t ∷ fails.front;
      text = fails.text;
      behind = fails.behind;
      whole = ap (λ l. t ∷ l) fails.whole;
      mid = fails.mid;
      lists = fails.lists;
      made = all_made site.users (t ∷ []) fails.front before mid fails.mid old seen fails.lists (one_made site.users t l before mid old seen are.0 h) fails.made;
      value = fails.value;
      read = fails.read;
      number_is = fails.number_is;
      is = fails.is;
    }

pub later_refused : (site : Site) (l : ReadLine) (ls : List ReadLine) (before mid : Restored) (old seen : Histories) (f : RestoreFault) → MakesLine site.users l before mid old seen → IsUnmade site ls mid seen f
    → IsUnmade site (l ∷ ls) before old f
later_refused site l ls before mid old seen Busy h k = k
later_refused site l ls before mid old seen (Line number w) h k = later_fails site l ls before mid old seen number w h k
later_refused site l ls before mid old seen Failed h k = k
later_refused site l ls before mid old seen (Memory refused) h k = tt

-- ---- all bytes of a log

open_at : (front : List (List ℕ)) (text : List ℕ) (behind texts : List (List ℕ)) → texts ≡ front ++ text ∷ behind → AllByRecursion IsOpen texts → AllByRecursion IsOpen front × IsOpen text
open_at front text behind texts is opens = open_in front (subst (AllByRecursion IsOpen) is opens) where
  open_in : (ts : List (List ℕ)) → AllByRecursion IsOpen (ts ++ text ∷ behind) → AllByRecursion IsOpen ts × IsOpen text
  open_in [] h = (tt, h.0)
  open_in (t ∷ ts) h = let rest = open_in ts h.1 in ((h.0, rest.0), rest.1)

split_at : (front : List (List ℕ)) (text : List ℕ) (behind texts : List (List ℕ)) (rest more : List ℕ) → texts ≡ front ++ text ∷ behind
    → (file_of texts ++ rest) ++ more ≡ file_of front ++ (line text ++ (file_of behind ++ (rest ++ more)))
split_at front text behind texts rest more is =
    let parts : file_of texts ≡ file_of front ++ (line text ++ file_of behind) = ap file_of is ∙ flat_map-append line front (text ∷ behind) in
    append_assoc (file_of texts) rest more
    ∙ (ap (λ l. l ++ (rest ++ more)) parts
    ∙ (append_assoc (file_of front) (line text ++ file_of behind) (rest ++ more) ∙ ap (λ l. file_of front ++ l) (append_assoc (line text) (file_of behind) (rest ++ more))))

number_of : (number lines count : ℕ) → number ≡ counted lines 1 → lines ≡ counted 0 count → number ≡ counted count 1
number_of number lines count is lines_are = omega (arith, is, lines_are)

wrong_text : (site : Site) (before : List (List ℕ)) (bytes : List ℕ) (w : Wrong) → IsWrongText site before bytes w → IsWrongAt site before bytes w
wrong_text site before bytes wrong.Check h = absurd h.is
wrong_text site before bytes wrong.Long h = absurd h.is
wrong_text site before bytes wrong.Head h = h
wrong_text site before bytes wrong.Devices h = h
wrong_text site before bytes wrong.Text h = inr h
wrong_text site before bytes (wrong.Store why) h = h

-- a text that is refused, among those that were read
unmade_line : (site : Site) (told left : Option (List ℕ)) (lines : List ReadLine) (rest : List ℕ) (far : Restored) (old mid : Histories) (number : ℕ) (w : Wrong) → IsAhead site.users told left lines rest far old mid
    → IsUnmade site lines far mid (Line number w) → (all : List ℕ) → told ≡ Some all → IsWrongLine site all old number w
unmade_line site told left lines rest far old mid number w h unmade all e =
    let before = h.far_is.each all e in
    let taken = before.taken in
    let fails = unmade h.texts h.are in
    let front = taken.texts ++ fails.front in
    let left_over = line fails.text ++ (file_of fails.behind ++ (rest ++ before.more)) in
    let made = all_made site.users taken.texts fails.front no_lines far fails.mid old mid fails.lists taken.made fails.made in
    let lines_are : fails.mid.lines ≡ counted 0 (length front) = made.lines (omega arith) in
    let opens = open_at fails.front fails.text fails.behind h.texts fails.whole (are_open h.texts lines h.are) in
    record {
      texts = front;
      rest = left_over;
      whole = joined all ((file_of h.texts ++ rest) ++ before.more) left_over taken.texts fails.front taken.whole (split_at fails.front fails.text fails.behind h.texts rest before.more fails.whole);
      texts_open = all_open taken.texts fails.front taken.texts_open opens.0;
      number_is = number_of number fails.mid.lines (length front) fails.number_is lines_are;
      lists = fails.lists;
      made = made.made;
      is = wrong_text site front left_over w (record {
        text = fails.text;
        behind = file_of fails.behind ++ (rest ++ before.more);
        begins = refl;
        text_open = opens.1;
        value = fails.value;
        read = fails.read;
        is = subst (λ n. IsWrongValue site n (devices_after site.users 0 front) fails.value w) lines_are (subst (λ n. IsWrongValue site fails.mid.lines n fails.value w) made.devices fails.is);
      });
    }

pub ahead_unmade : (site : Site) (told left : Option (List ℕ)) (lines : List ReadLine) (rest : List ℕ) (far : Restored) (old mid : Histories) (f : RestoreFault) → IsAhead site.users told left lines rest far old mid
    → IsUnmade site lines far mid f → TellsWrong site told old f
ahead_unmade site told left lines rest far old mid Busy h unmade = tt
ahead_unmade site told left lines rest far old mid (Line number w) h unmade = unmade_line site told left lines rest far old mid number w h unmade
ahead_unmade site told left lines rest far old mid Failed h unmade = tt
ahead_unmade site told left lines rest far old mid (Memory refused) h unmade = tt

-- what was misread is so with more bytes behind
misread_on : (site : Site) (before : List (List ℕ)) (bytes more : List ℕ) (w : Wrong) → IsMisread w bytes → IsWrongAt site before (bytes ++ more) w
misread_on site before bytes more wrong.Check h =
    record { front = h.front; rest = h.rest ++ more; is = ap (λ l. l ++ more) h.is ∙ append_assoc h.front (10 ∷ h.rest) more; front_open = h.front_open; no_line = h.no_line }
misread_on site before bytes more wrong.Long h =
    let sum : length (bytes ++ more) ≡ length bytes + length more = length-append bytes more in
    (omega (arith, sum, h.0), subst IsOpen (sym (take-append-le 67108865 bytes more h.0)) h.1)
misread_on site before bytes more wrong.Head h = absurd h
misread_on site before bytes more wrong.Devices h = absurd h
misread_on site before bytes more wrong.Text h =
    inl (record { text = h.text; behind = h.behind ++ more; is = ap (λ l. l ++ more) h.is ∙ append_assoc (line h.text) h.behind more; text_open = h.text_open; fault = h.fault; refused = h.refused })
misread_on site before bytes more (wrong.Store why) h = absurd h

misread_line : (site : Site) (told left : Option (List ℕ)) (rest : List ℕ) (far : Restored) (old new : Histories) (w : Wrong) → IsFar site.users told left rest far old new → IsMisread w rest → TellsWrong site told old (Line (counted far.lines 1) w)
misread_line site told left rest far old new w h stops all e =
    let now = h.each all e in
    let taken = now.taken in
    record {
      texts = taken.texts;
      rest = rest ++ now.more;
      whole = taken.whole;
      texts_open = taken.texts_open;
      number_is = number_of (counted far.lines 1) far.lines (length taken.texts) refl (taken.made.lines (omega arith));
      lists = new;
      made = taken.made.made;
      is = misread_on site taken.texts rest now.more w stops;
    }

pub ended_wrong : (site : Site) (told left : Option (List ℕ)) (rest : List ℕ) (far : Restored) (old new : Histories) (s : Stopped) (r : Result Restored RestoreFault) → r ≡ ended_at far s → IsFar site.users told left rest far old new
    → StopsAt s rest → IfErr r (λ fault. TellsWrong site told old fault)
ended_wrong site told left rest far old new s r is h stops = subst (λ q. IfErr q (λ fault. TellsWrong site told old fault)) (sym is) (by_stop s stops) where
  by_stop : (s : Stopped) → StopsAt s rest → IfErr (ended_at far s) (λ fault. TellsWrong site told old fault)
  by_stop stop.Open stops = tt
  by_stop stop.End stops = tt
  by_stop (stop.Wrong w) stops = misread_line site told left rest far old new w h stops
  by_stop stop.Failed stops = tt
  by_stop (stop.Memory refused) stops = tt

-- ---- the callers

pub of_log : (site : Site) (told : Option (List ℕ)) (old : Histories) (f : RestoreFault) → IsOfLog f → TellsWrong site told old f
of_log site told old Busy h = tt
of_log site told old (Line number w) h = absurd h
of_log site told old Failed h = tt
of_log site told old (Memory refused) h = tt

pub of_opening : (site : Site) (told : Option (List ℕ)) (old : Histories) (f : RestoreFault) → IsOfOpening f → TellsWrong site told old f
of_opening site told old Busy h = tt
of_opening site told old (Line number w) h = absurd h
of_opening site told old Failed h = tt
of_opening site told old (Memory refused) h = absurd h

pub opened_wrong : (site : Site) (told left : Option (List ℕ)) (log : Option Logged) (old : Histories) (f : RestoreFault) → Opens told log left → TellsWrong site left old f → TellsWrong site told old f
opened_wrong site told left log old Busy opens h = tt
opened_wrong site told left log old (Line number w) opens h = λ bytes e. h bytes (opens bytes e).1
opened_wrong site told left log old Failed opens h = tt
opened_wrong site told left log old (Memory refused) opens h = tt
