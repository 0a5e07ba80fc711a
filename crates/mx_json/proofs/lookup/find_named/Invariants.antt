use Rattle.std.proofs.Common.{◌≡◌, drop}
use Rattle.std.specs.Str.{chars, encode_utf8_all}
use Rattle.mx_json.specs.Keys.{value_at}
use Rattle.mx_json.specs.Lookups.{first_part, marks}
use Rattle.mx_json.proofs.lookup.find_named.Given as goal

abbrev pub invariant-members : goal.invariant-members
invariant-members l =
    value_at (encode_utf8_all (first_part (marks (chars l.path)))) (drop l.member-index l.members)
    ≡ value_at (encode_utf8_all (first_part (marks (chars l.path)))) l.members
