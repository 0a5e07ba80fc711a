-- Lines as they are read.
use Rattle.std.proofs.Common.{◌≡◌, ℕ, suc, zero, ◌+◌, ◌-◌, ◌<◌, ◌≤◌, Bool, false, true, List, [], ◌∷◌, ◌++◌, length, take, drop, Option, Some, None, refl, sym, ap, ◌∙◌, subst, arith, length-append, append_assoc}
use Rattle.std.specs.Prelude.{◌==◌, ◌||◌}
use Rattle.std.proofs.lemmas.List.{append-nil}
use Rattle.std.proofs.lemmas.Grind.{flat_map-append}
use Rattle.std.proofs.Math.Seq.{drop-append_seam, take-append_seam}
use Rattle.std.specs.Io.KnownBytes.{Consumes}
use Rattle.mx_lines.specs.Lines.{IsOpen, checked, ends, file_of, letters, line, sum_of}
use Rattle.mx_restore.specs.Batches.{AreLinesOf, HasRead, HasReadMore, IsLong, ReadsOne, StopsAt, StopsHere, StopsText}
use Rattle.mx_restore.specs.declared.reading.ReadLine.{ReadLine}
use Rattle.mx_restore.specs.declared.reading.Stopped.{Stopped}
use Rattle.mx_restore.specs.declared.reading.Stopped.TheVariants as stop
use Rattle.mx_restore.specs.declared.wrong.Wrong.TheVariants as wrong

line_long : (text : List ℕ) → 10 ≤ length (line text)
line_long text = let sum : length (line text) ≡ length (letters (sum_of text) ++ 32 ∷ text) + 1 = length-append (checked text) (10 ∷ []) in omega (arith, sum)

-- how long a line is, of what it and the lines behind it have
pub line_length : (rest behind text : List ℕ) → rest ≡ line text ++ behind → length rest ≡ length (line text) + length behind
line_length rest behind text is = ap length is ∙ length-append (line text) behind

pub shrinks : (rest behind text : List ℕ) → rest ≡ line text ++ behind → length behind < length rest
shrinks rest behind text is = omega (arith, line_length rest behind text is, line_long text)

-- what stands before the bytes behind a line is the line
pub front_is : (rest behind text : List ℕ) → rest ≡ line text ++ behind → take (length rest - length behind) rest ≡ line text
front_is rest behind text is =
    let long : length rest - length behind ≡ length (line text) = let sum = line_length rest behind text is in omega (arith, sum) in
    ap (λ n. take n rest) long ∙ (ap (take (length (line text))) is ∙ take-append_seam (line text) behind)

are_all : (ts us : List (List ℕ)) (ls ms : List ReadLine) → AreLinesOf ts ls → AreLinesOf us ms → AreLinesOf (ts ++ us) (ls ++ ms)
are_all [] us [] ms h k = k
are_all [] us (l ∷ ls) ms h k = absurd h
are_all (t ∷ ts) us [] ms h k = absurd h
are_all (t ∷ ts) us (l ∷ ls) ms h k = (h.0, are_all ts us ls ms h.1 k)

-- lines that were taken of the bytes that others had left
pub joined : (bytes rest behind : List ℕ) (ts us : List (List ℕ)) → bytes ≡ file_of ts ++ rest → rest ≡ file_of us ++ behind → bytes ≡ file_of (ts ++ us) ++ behind
joined bytes rest behind ts us before is =
    before ∙ (ap (λ l. file_of ts ++ l) is ∙ (sym (append_assoc (file_of ts) (file_of us) behind) ∙ ap (λ l. l ++ behind) (sym (flat_map-append line ts us))))

pub read_none : (bytes : List ℕ) (ls : List ReadLine) → HasRead bytes bytes ls ls
read_none bytes ls = record { texts = []; whole = refl; lines = []; added = sym (append-nil ls); are = tt }

pub read_one_more : (bytes rest behind : List ℕ) (old mid new : List ReadLine) → HasRead bytes rest old mid → ReadsOne rest behind mid new → HasRead bytes behind old new
read_one_more bytes rest behind old mid new h one =
    let text = one.0 in
    let l = one.2 in
    record {
      texts = h.texts ++ text ∷ [];
      whole = joined bytes rest behind h.texts (text ∷ []) h.whole (one.1 ∙ ap (λ b. b ++ behind) (sym (append-nil (line text))));
      lines = h.lines ++ l ∷ [];
      added = one.3 ∙ (ap (λ ls. ls ++ l ∷ []) h.added ∙ append_assoc old h.lines (l ∷ []));
      are = are_all h.texts (text ∷ []) h.lines (l ∷ []) h.are (one.4, tt);
    }

-- what was taken, and then more of it
taken_all : (left mid next : Option (List ℕ)) (first second : List ℕ) → Consumes left mid first → Consumes mid next second → Consumes left next (first ++ second)
taken_all None mid next first second h k = tt
taken_all (Some xs) None next first second h k = absurd h
taken_all (Some xs) (Some ys) None first second h k = absurd k
taken_all (Some xs) (Some ys) (Some zs) first second h k = h ∙ (ap (λ l. first ++ l) k ∙ sym (append_assoc first second zs))

none_taken : (left : Option (List ℕ)) → Consumes left left []
none_taken None = tt
none_taken (Some xs) = refl

pub more_none : (left : Option (List ℕ)) (rest : List ℕ) (ls : List ReadLine) → HasReadMore left left rest rest ls ls
more_none left rest ls = record { piece = []; taken = none_taken left; read = subst (λ b. HasRead b rest ls ls) (sym (append-nil rest)) (read_none rest ls) }

pub more_all : (left mid next : Option (List ℕ)) (bytes rest behind : List ℕ) (old seen new : List ReadLine) → HasReadMore left mid bytes rest old seen → HasReadMore mid next rest behind seen new → HasReadMore left next bytes behind old new
more_all left mid next bytes rest behind old seen new h k =
    let first = h.read in
    let second = k.read in
    record {
      piece = h.piece ++ k.piece;
      taken = taken_all left mid next h.piece k.piece h.taken k.taken;
      read = record {
        texts = first.texts ++ second.texts;
        whole = joined (bytes ++ (h.piece ++ k.piece)) (rest ++ k.piece) behind first.texts second.texts
            (sym (append_assoc bytes h.piece k.piece) ∙ (ap (λ l. l ++ k.piece) first.whole ∙ append_assoc (file_of first.texts) rest k.piece)) second.whole;
        lines = first.lines ++ second.lines;
        added = second.added ∙ (ap (λ ls. ls ++ second.lines) first.added ∙ append_assoc old first.lines second.lines);
        are = are_all first.texts second.texts first.lines second.lines first.are second.are;
      };
    }

pub read_shrinks : (bytes behind : List ℕ) (old new : List ReadLine) → ReadsOne bytes behind old new → length behind < length bytes
read_shrinks bytes behind old new one = shrinks bytes behind one.0 one.1

-- what is left is what stands behind so many bytes
pub rest_is : (bytes rest : List ℕ) (old new : List ReadLine) → HasRead bytes rest old new → drop (length bytes - length rest) bytes ≡ rest
rest_is bytes rest old new h =
    let sum : length bytes ≡ length (file_of h.texts) + length rest = ap length h.whole ∙ length-append (file_of h.texts) rest in
    let count : length bytes - length rest ≡ length (file_of h.texts) = omega (arith, sum) in
    ap (λ n. drop n bytes) count ∙ (ap (drop (length (file_of h.texts))) h.whole ∙ drop-append_seam (file_of h.texts) rest)

pub stops_text : (s : Stopped) (bytes text behind : List ℕ) → StopsText s text → bytes ≡ line text ++ behind → IsOpen text → StopsHere s bytes
stops_text stop.Open bytes text behind h is opens = absurd h
stops_text stop.End bytes text behind h is opens = absurd h
stops_text (stop.Wrong wrong.Check) bytes text behind h is opens = absurd h
stops_text (stop.Wrong wrong.Long) bytes text behind h is opens = absurd h
stops_text (stop.Wrong wrong.Head) bytes text behind h is opens = absurd h
stops_text (stop.Wrong wrong.Devices) bytes text behind h is opens = absurd h
stops_text (stop.Wrong wrong.Text) bytes text behind h is opens = record { text = text; behind = behind; is = is; text_open = opens; fault = h.0; refused = h.1 }
stops_text (stop.Wrong (wrong.Store why)) bytes text behind h is opens = absurd h
stops_text stop.Failed bytes text behind h is opens = absurd h
stops_text (stop.Memory refused) bytes text behind h is opens = tt

pub stops_at : (s : Stopped) (bytes : List ℕ) → StopsHere s bytes → StopsAt s bytes
stops_at stop.Open bytes h = h
stops_at stop.End bytes h = absurd h
stops_at (stop.Wrong w) bytes h = h
stops_at stop.Failed bytes h = absurd h
stops_at (stop.Memory refused) bytes h = tt

or_open : (c x y : Bool) → (x ≡ false → y ≡ false) → (c || x) ≡ false → (c || y) ≡ false
or_open true x y f h = h
or_open false x y f h = f h

-- the first bytes of some in which no line ends
open_front : (n : ℕ) (bytes : List ℕ) → IsOpen bytes → IsOpen (take n bytes)
open_front zero [] h = refl
open_front (suc n) [] h = refl
open_front zero (b ∷ bs) h = refl
open_front (suc n) (b ∷ bs) h = or_open (b == 10) (ends bs) (ends (take n bs)) (open_front n bs) h

pub long_open : (bytes : List ℕ) → IsOpen bytes → 67108864 < length bytes → IsLong bytes
long_open bytes opens long = (long, open_front 67108865 bytes opens)
