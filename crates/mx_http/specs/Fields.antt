-- What the field lines of a request say: names are compared without regard to ASCII case, and
-- white space around a value is no part of it (RFC 9110, section 5).
use Rattle.std.specs.Prelude.{ℕ, ◌&&◌, ◌||◌, ◌==◌, List, [], ◌∷◌, Bool, Option, Some, None, Result, Ok, Err, map, filter, length, drop, nat_lt, nat_le, if◌then◌else◌, codes}
use Rattle.std.specs.List.{list_all, list_any, slice_split, starts_with}
use Rattle.std.specs.Char.{is_ascii_digit}
use Rattle.std.specs.Option.{option_eq}
use Rattle.std.specs.Str.{bytes_eq, str_to_ascii_lowercase}
use Rattle.std.specs.Str.Lossy.{utf8_lossy}
use Rattle.std.specs.Str.Parse.{digits_value}
use Rattle.std.specs.Prelude.{nat_eq}
use Rattle.httparse.specs.Grammar.{Field, field_value, trim_ows}
use Rattle.mx_http.specs.declared.fault.HttpFault.{HttpFault}
use Rattle.mx_http.specs.declared.fault.HttpFault.TheVariants as faults

-- the names and the values of the field lines, in order
abbrev pub pairs_of : List Field → List (List ℕ × List ℕ)
pairs_of fields = map (λ f. (f.name, field_value f)) fields

-- the bytes without regard to ASCII case are this text, which has no capital letter
abbrev pub is_word : List ℕ → List ℕ → Bool
is_word word bytes = bytes_eq (str_to_ascii_lowercase bytes) word

-- the values of the fields of one name, in order
abbrev pub values_of : List ℕ → List (List ℕ × List ℕ) → List (List ℕ)
values_of name pairs = map (λ p. p.1) (filter (λ p. is_word name p.0) pairs)

-- a body has at most so many bytes
abbrev pub body_limit : ℕ
body_limit = 1048576

-- the number that digits say, where there are digits alone
abbrev pub number_in : List ℕ → Option ℕ
number_in value = if list_all is_ascii_digit value then Some (digits_value 10 value) else None

-- the length that 1 to 19 digits say
abbrev pub length_in : List ℕ → Option ℕ
length_in value = if nat_lt 0 (length value) && nat_le (length value) 19 then number_in value else None

-- each of the values is a length, and says this one
abbrev pub all_say : ℕ → List (List ℕ) → Bool
all_say n values = list_all (λ value. option_eq nat_eq (length_in value) (Some n)) values

-- this length, where each further value says it
abbrev pub agreed : Option ℕ → List (List ℕ) → Option ℕ
agreed None more = None
agreed (Some n) more = if all_say n more then Some n else None

-- the length that the values say, 0 where there is none; none where a value is no length, or two of them differ as numbers
abbrev pub length_said : List (List ℕ) → Option ℕ
length_said [] = Some 0
length_said (value ∷ more) = agreed (length_in value) more

-- the size of a body of this length
abbrev pub size_of_length : Option ℕ → Result ℕ HttpFault
size_of_length None = Err faults.BadLength
size_of_length (Some n) = if nat_le n body_limit then Ok n else Err faults.BodyTooLong

-- the size of the body that field lines say: there is no transfer coding, and one length within the limit
abbrev pub body_size : List (List ℕ × List ℕ) → Result ℕ HttpFault
body_size pairs =
    if nat_lt 0 (length (values_of (codes "transfer-encoding") pairs)) then Err faults.Coding else
    size_of_length (length_said (values_of (codes "content-length") pairs))

-- the token that follows `Bearer ` in the first value; what isn't UTF-8 there is no user's token, and reads as U+FFFD
abbrev pub bearer_in : List (List ℕ) → Option (List ℕ)
bearer_in [] = None
bearer_in (value ∷ more) = if starts_with nat_eq value (codes "Bearer ") then Some (utf8_lossy (drop 7 value)) else None

-- the access token of the first `Authorization` field (Client-Server API, Using access tokens)
abbrev pub bearer_of : List (List ℕ × List ℕ) → Option (List ℕ)
bearer_of pairs = bearer_in (values_of (codes "authorization") pairs)

-- one of the elements between the commas is this word
abbrev pub has_element : List ℕ → List ℕ → Bool
has_element word value = list_any (λ element. is_word word (trim_ows element)) (slice_split (λ b. b == 44) value)

-- the connection is to end after the answer: HTTP/1.0, or a `Connection` field with the element `close`
abbrev pub asks_close : ℕ → List (List ℕ × List ℕ) → Bool
asks_close minor pairs = minor == 0 || list_any (has_element (codes "close")) (values_of (codes "connection") pairs)
