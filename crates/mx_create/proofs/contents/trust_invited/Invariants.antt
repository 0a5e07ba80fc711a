use Rattle.std.proofs.Common.{◌≡◌, drop, fold}
use Rattle.std.specs.List.{filter_map}
use Rattle.mx_json.specs.Fields.{text_of}
use Rattle.mx_create.specs.Contents.{with_user}
use Rattle.mx_create.proofs.contents.trust_invited.Given as goal

abbrev pub invariant-users : goal.invariant-users
invariant-users l = fold with_user l.levels (filter_map text_of (drop l.user-index l.user-items)) ≡ fold with_user l.initial.levels (filter_map text_of l.user-items)
