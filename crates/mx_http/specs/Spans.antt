-- Field lines that are given by the places of their names and values.
use Rattle.std.specs.Prelude.{◌≡◌, ℕ, List, [], ◌∷◌, Option, Some, None, MatchOption, map, length, All, if◌then◌else◌}
use Rattle.std.specs.List.{list_all}
use Rattle.std.specs.Char.{is_ascii_digit}
use Rattle.std.specs.Str.Parse.{digits_value_after}
use Rattle.httparse.specs.Spans.{header_bytes, IsHeaderWithin}
use Rattle.httparse.specs.declared.spans.HeaderSpan.{HeaderSpan}
use Rattle.mx_http.specs.Fields.{values_of}

-- the names and the values that stand at these places
abbrev pub pairs_at : List ℕ → List HeaderSpan → List (List ℕ × List ℕ)
pairs_at bytes spans = map (header_bytes bytes) spans

-- each name and each value lies in the bytes
abbrev pub AreWithin : List ℕ → List HeaderSpan → Type 0
AreWithin bytes spans = All (IsHeaderWithin (length bytes)) spans

-- the first value of the name, and the lines after its line
abbrev pub FindsFirst : List ℕ → List ℕ → List HeaderSpan → Option (List ℕ × List HeaderSpan) → Type 0
FindsFirst name bytes spans found = MatchOption found (values_of name (pairs_at bytes spans) ≡ [])
    (λ f. (values_of name (pairs_at bytes spans) ≡ f.0 ∷ values_of name (pairs_at bytes f.1)) × AreWithin bytes f.1)

-- the number that digits write when they follow those of n
abbrev pub number_after : ℕ → List ℕ → Option ℕ
number_after n digits = if list_all is_ascii_digit digits then Some (digits_value_after 10 n digits) else None
