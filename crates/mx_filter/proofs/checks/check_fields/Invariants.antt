use Rattle.std.proofs.Common.{◌≡◌, drop}
use Rattle.mx_filter.specs.Fields.{wrong_field}
use Rattle.mx_filter.proofs.checks.check_fields.Given as goal

abbrev pub invariant-fields : goal.invariant-fields
invariant-fields l = wrong_field l.place (drop l.field-index l.fields) l.part ≡ wrong_field l.place l.fields l.part
