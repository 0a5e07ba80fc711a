-- What the head parser's answers say of bytes that are at most as many as a head has.
use Rattle.std.proofs.Common.{◌≡◌, ℕ, ◌+◌, ◌*◌, ◌<◌, ◌≤◌, ◌⊎◌, inl, inr, ⊎_elim, IsTrue, Bool, true, false, if◌then◌else◌, nat_le, nat_lt, codes, IsUtf8, Option, Some, None, Result, Ok, Err, IfErr, List, [], ◌∷◌, ◌++◌, length, take, drop, sym, ap, subst, ◌∙◌, arith, length-append, take-append-drop}
use Rattle.std.specs.List.{All, flat_map}
use Rattle.std.proofs.lemmas.Bool.Decides.{nat_tests}
use Rattle.std.proofs.lemmas.List.{take_all}
use Rattle.std.proofs.lemmas.List.Elements.{All-weaker}
use Rattle.std.proofs.lemmas.Str.{IsUtf8-from_ascii}
use Rattle.std.proofs.lemmas.Str.Ascii.{IsAscii-from_all}
use Rattle.std.proofs.lemmas.List.Elements.{All-head, All-tail}
use Rattle.httparse.specs.Grammar.{RequestHead, LineEnd, Field, IsField, crlf, lf, print_end, print_field, print_section, print_blank, print_version, print_request, HasNoRequest, NeverHasRequest, MayBecomeRequest, EndsInTarget, is_token_byte, IsToken}
use Rattle.httparse.specs.Spans.{RequestExceeds, IsRequestWithin, IsRequestOf, span_bytes}
use Rattle.httparse.specs.declared.spans.HeaderSpan.{HeaderSpan}
use Rattle.httparse.specs.declared.spans.RequestSpans.{RequestSpans}
use Rattle.mx_http.specs.declared.head.Head.{Head}
use Rattle.mx_http.specs.declared.grammar.Judged.{Judged}
use Rattle.mx_http.specs.declared.grammar.Judged.TheVariants as judged
use Rattle.mx_http.specs.declared.fault.HttpFault.{HttpFault}
use Rattle.mx_http.specs.declared.fault.HttpFault.TheVariants as faults
use Rattle.mx_http.specs.Fields.{asks_close, bearer_of, body_limit, body_size, length_said, pairs_of, size_of_length, values_of}
use Rattle.mx_http.specs.Spans.{pairs_at}
use Rattle.mx_http.specs.Calls.{AreLineEnds, HasBadSize, HasFault, IsBlank, IsOpenHead, head_limit}
use Rattle.mx_http.specs.Parts.{Judges, JudgesNone, HasParts, TakesApart, FindsHead}
use Rattle.mx_http.proofs.Unique.{HasHead-append, may_not_close, none_from_never}

end_counts : (end : LineEnd) → 1 ≤ length (print_end end)
end_counts crlf = omega arith
end_counts lf = omega arith

-- a field line has at least three bytes
field_counts : (f : Field) → IsField f → 3 ≤ length (print_field f)
field_counts f is =
    let all : length (print_field f) ≡ length (f.name ++ 58 ∷ f.raw) + length (print_end f.end) = length-append (f.name ++ 58 ∷ f.raw) (print_end f.end) in
    omega (arith, is.name.0, all, length-append f.name (58 ∷ f.raw), end_counts f.end)

fields_count : (fields : List Field) → All IsField fields → 3 * length fields ≤ length (flat_map print_field fields)
fields_count [] all = omega arith
fields_count (f ∷ fields) all =
    omega (arith, field_counts f (All-head IsField f fields all), fields_count fields (All-tail IsField f fields all), length-append (print_field f) (flat_map print_field fields))

head_counts : (h : RequestHead) → All IsField h.fields → 3 * length h.fields ≤ length (print_request h)
unfolding print_request
head_counts h all =
    let before = print_blank h.blank ++ h.method ++ 32 ∷ h.target ++ 32 ∷ print_version h.minor ++ print_end h.line_end in
    omega (arith, fields_count h.fields all, length-append (flat_map print_field h.fields) (print_end h.last), length-append before (print_section h.fields h.last))

-- no head within the limit has more field lines than there is room for
pub no_excess : (bytes : List ℕ) (room : ℕ) → length bytes ≤ 16384 → room ≡ 5600 → RequestExceeds room bytes → ⊥
no_excess bytes room short is over =
    let split : bytes ≡ over.0 ++ over.1 = over.2 in
    let many : room < length over.3.fields = over.5 in
    omega (arith, short, is, many, head_counts over.3 over.4.0.fields, ap length split, length-append over.0 over.1, ap length over.4.1, length-append (print_request over.3) [], length-append over.0 (print_end lf))

pub judges_none : (bytes : List ℕ) (fields : List HeaderSpan) (r : Judged) → NeverHasRequest bytes → JudgesNone bytes r → Judges bytes fields r
judges_none bytes fields (judged.Whole spans) never h = absurd h
judges_none bytes fields judged.Open never h =
    (none_from_never bytes never, ⊎_elim (λ (t : EndsInTarget bytes). inl (inr t)) (λ (l : AreLineEnds bytes). inr l) h)
judges_none bytes fields judged.Bad never h = (never, h.0, h.1)

-- ---- the parts of a head

token_is_ascii : (b : ℕ) → is_token_byte b ≡ true → b < 128
unfolding is_token_byte
token_is_ascii b token = grind (arith, nat_tests)

pub token_is_text : (bytes : List ℕ) → IsToken bytes → IsUtf8 bytes
token_is_text bytes token =
    IsUtf8-from_ascii bytes (IsAscii-from_all bytes (All-weaker (λ b. IsTrue (is_token_byte b)) (λ b. b < 128) token_is_ascii bytes token.1))

pub parts_are : (bytes : List ℕ) (fields lines : List HeaderSpan) (spans : RequestSpans) (parts : Head)
    → length bytes ≤ 16384 → IsRequestWithin bytes fields spans → IsRequestOf bytes fields spans
    → lines ≡ take spans.headers fields
    → Ok parts.size ≡ body_size (pairs_at bytes lines) → parts.method ≡ span_bytes bytes spans.method → parts.target ≡ span_bytes bytes spans.path
    → parts.bearer ≡ bearer_of (pairs_at bytes lines) → parts.close ≡ asks_close spans.version (pairs_at bytes lines) → parts.len ≡ spans.len
    → HasParts bytes parts
parts_are bytes fields lines spans parts short within whole front size method target bearer close len =
    let h = whole.0 in
    let at = whole.1 in
    let pairs : pairs_at bytes lines ≡ pairs_of h.fields = ap (pairs_at bytes) front ∙ at.fields in
    let same_method : h.method ≡ parts.method = sym (method ∙ at.method) in
    let same_target : h.target ≡ parts.target = sym (target ∙ at.path) in
    let same_bearer : bearer_of (pairs_of h.fields) ≡ parts.bearer = sym (bearer ∙ ap bearer_of pairs) in
    let same_close : asks_close h.minor (pairs_of h.fields) ≡ parts.close = sym (close ∙ (λ i. asks_close (at.version i) (pairs i))) in
    record {
      head = h;
      rest = drop spans.len bytes;
      has_head = record { reads = at.reads; short = omega (arith, at.len, within.section.len_fits, short) };
      has_size = sym (ap body_size pairs) ∙ sym size;
      len = len ∙ at.len;
      says = λ body i. record { method = same_method i; target = same_target i; bearer = same_bearer i; body = body; close = same_close i };
    }

-- the field lines of a whole head say no size
pub size_is_bad : (bytes : List ℕ) (fields lines : List HeaderSpan) (spans : RequestSpans) (fault : HttpFault)
    → length bytes ≤ 16384 → IsRequestWithin bytes fields spans → IsRequestOf bytes fields spans
    → lines ≡ take spans.headers fields → Err fault ≡ body_size (pairs_at bytes lines) → HasBadSize bytes fault
size_is_bad bytes fields lines spans fault short within whole front size =
    let h = whole.0 in
    let at = whole.1 in
    let pairs : pairs_at bytes lines ≡ pairs_of h.fields = ap (pairs_at bytes) front ∙ at.fields in
    record {
      head = h;
      rest = drop spans.len bytes;
      has_head = record { reads = at.reads; short = omega (arith, at.len, within.section.len_fits, short) };
      says = sym (ap body_size pairs) ∙ sym size;
    }

-- memory isn't refused by field lines
pub bad_size_apart : (bytes : List ℕ) (fault : HttpFault) → HasBadSize bytes fault → TakesApart bytes (Err fault)
bad_size_apart bytes faults.Head x = x
bad_size_apart bytes faults.HeadTooLong x = x
bad_size_apart bytes faults.BodyTooLong x = x
bad_size_apart bytes faults.BadLength x = x
bad_size_apart bytes faults.Coding x = x
bad_size_apart bytes faults.Cut x = x
bad_size_apart bytes faults.ReadFault x = x
bad_size_apart bytes (faults.Memory _) x = tt

-- ---- the faults of field lines

abbrev IsSizeFault : HttpFault → Type 0
IsSizeFault faults.BodyTooLong = Unit {0}
IsSizeFault faults.BadLength = Unit {0}
IsSizeFault faults.Coding = Unit {0}
IsSizeFault other = ⊥

either : (b : Bool) (x y : Result ℕ HttpFault) → IfErr x IsSizeFault → IfErr y IsSizeFault → IfErr (if b then x else y) IsSizeFault
either true x y p q = p
either false x y p q = q

length_faults : (n : Option ℕ) → IfErr (size_of_length n) IsSizeFault
length_faults None = tt
length_faults (Some n) = either (nat_le n body_limit) (Ok n) (Err faults.BodyTooLong) tt tt

size_faults : (pairs : List (List ℕ × List ℕ)) → IfErr (body_size pairs) IsSizeFault
size_faults pairs =
    either (nat_lt 0 (length (values_of (codes "transfer-encoding") pairs))) (Err faults.Coding) (size_of_length (length_said (values_of (codes "content-length") pairs))) tt
    (length_faults (length_said (values_of (codes "content-length") pairs)))

by_size : (bytes : List ℕ) (fault : HttpFault) → IsSizeFault fault → HasBadSize bytes fault → HasFault fault bytes
by_size bytes faults.Head s x = absurd s
by_size bytes faults.HeadTooLong s x = absurd s
by_size bytes faults.BodyTooLong s x = x
by_size bytes faults.BadLength s x = x
by_size bytes faults.Coding s x = x
by_size bytes faults.Cut s x = absurd s
by_size bytes faults.ReadFault s x = absurd s
by_size bytes (faults.Memory _) s x = absurd s

bad_size_faults : (bytes : List ℕ) (fault : HttpFault) → HasBadSize bytes fault → HasFault fault bytes
bad_size_faults bytes fault x = by_size bytes fault (subst (λ r. IfErr r IsSizeFault) x.says (size_faults (pairs_of x.head.fields))) x

-- ---- from the first bytes to all

parts_of_all : (bytes : List ℕ) (n : ℕ) (parts : Head) → HasParts (take n bytes) parts → HasParts bytes parts
parts_of_all bytes n parts x = subst (λ l. HasParts l parts) (take-append-drop n bytes) record {
  head = x.head;
  rest = x.rest ++ drop n bytes;
  has_head = HasHead-append (take n bytes) (drop n bytes) x.head x.rest x.has_head;
  has_size = x.has_size;
  len = x.len;
  says = x.says;
}

bad_size_of_all : (bytes : List ℕ) (n : ℕ) (fault : HttpFault) → HasBadSize (take n bytes) fault → HasFault fault bytes
bad_size_of_all bytes n fault x = bad_size_faults bytes fault (subst (λ l. HasBadSize l fault) (take-append-drop n bytes) record {
  head = x.head;
  rest = x.rest ++ drop n bytes;
  has_head = HasHead-append (take n bytes) (drop n bytes) x.head x.rest x.has_head;
  says = x.says;
})

open_of_all : (bytes : List ℕ) → length bytes < head_limit → HasNoRequest bytes → MayBecomeRequest bytes ⊎ AreLineEnds bytes → IsOpenHead bytes ⊎ IsBlank bytes
open_of_all bytes short none may = ⊎_elim
    (λ (m : MayBecomeRequest bytes). inl record { short = short; none = none; open_end = m })
    (λ (l : AreLineEnds bytes). inr (short, l))
    may

-- ---- the answers of the reader of heads

pub apart_finds : (bytes front : List ℕ) (r : Result (Option Head) HttpFault) → front ≡ take head_limit bytes → TakesApart front r → FindsHead bytes r
apart_finds bytes front (Ok (Some parts)) e x = parts_of_all bytes head_limit parts (subst (λ l. HasParts l parts) e x)
apart_finds bytes front (Ok None) e x = absurd x
apart_finds bytes front (Err faults.Head) e x = bad_size_of_all bytes head_limit faults.Head (subst (λ l. HasBadSize l faults.Head) e x)
apart_finds bytes front (Err faults.HeadTooLong) e x = bad_size_of_all bytes head_limit faults.HeadTooLong (subst (λ l. HasBadSize l faults.HeadTooLong) e x)
apart_finds bytes front (Err faults.BodyTooLong) e x = bad_size_of_all bytes head_limit faults.BodyTooLong (subst (λ l. HasBadSize l faults.BodyTooLong) e x)
apart_finds bytes front (Err faults.BadLength) e x = bad_size_of_all bytes head_limit faults.BadLength (subst (λ l. HasBadSize l faults.BadLength) e x)
apart_finds bytes front (Err faults.Coding) e x = bad_size_of_all bytes head_limit faults.Coding (subst (λ l. HasBadSize l faults.Coding) e x)
apart_finds bytes front (Err faults.Cut) e x = bad_size_of_all bytes head_limit faults.Cut (subst (λ l. HasBadSize l faults.Cut) e x)
apart_finds bytes front (Err faults.ReadFault) e x = bad_size_of_all bytes head_limit faults.ReadFault (subst (λ l. HasBadSize l faults.ReadFault) e x)
apart_finds bytes front (Err (faults.Memory _)) e x = tt

pub open_finds : (bytes front : List ℕ) (fields : List HeaderSpan) → front ≡ take head_limit bytes → length bytes < head_limit → Judges front fields judged.Open
    → FindsHead bytes (Ok None)
open_finds bytes front fields e short x =
    let all : front ≡ bytes = e ∙ take_all head_limit bytes (omega arith) in
    let now = subst (λ l. Judges l fields judged.Open) all x in
    (short, open_of_all bytes short now.0 now.1)

pub long_finds : (bytes front : List ℕ) (fields : List HeaderSpan) → front ≡ take head_limit bytes → head_limit ≤ length bytes → Judges front fields judged.Open
    → FindsHead bytes (Err faults.HeadTooLong)
long_finds bytes front fields e long x =
    let now = subst (λ l. Judges l fields judged.Open) e x in
    record {
      long = long;
      none = now.0;
      not_closed = λ c. ⊎_elim (λ (m : MayBecomeRequest (take head_limit bytes)). may_not_close (take head_limit bytes) c m) (λ (l : AreLineEnds (take head_limit bytes)). c.asks l) now.1;
    }

pub bad_finds : (bytes front : List ℕ) (fields : List HeaderSpan) → front ≡ take head_limit bytes → Judges front fields judged.Bad → FindsHead bytes (Err faults.Head)
bad_finds bytes front fields e x =
    let now = subst (λ l. Judges l fields judged.Bad) e x in
    record { never = now.0; no_target = now.1; asks = now.2 }
