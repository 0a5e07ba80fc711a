use Rattle.std.proofs.Common.{rules, sym, ◌∙◌}
use Rattle.std.specs.Str.{chars}
use Rattle.mx_json.specs.Lookups.{marks, path_parts}
use Rattle.mx_json.proofs.Dotted.{last_found, part_found}
use Rattle.mx_json.proofs.value.Json.at_path.Goals as goal

pub parts-preserved : goal.parts-preserved
parts-preserved c =
    let ms = marks (chars c.parts.rest.now) in
    let ns = marks (chars c.in-Some-behind_dot.behind.now) in
    (search rules, sym (part_found ms ns c.parts.value.now c.in-Some.found.now (sym c.in-Some-behind_dot.ensures.rest) (sym c.in-Some.ensures)) ∙ c.parts.invariant.1)

pub returns-in-None-behind_dot : goal.returns-in-None-behind_dot
unfolding path_parts
returns-in-None-behind_dot c =
    sym (last_found (marks (chars c.parts.rest.now)) c.parts.value.now c.in-Some.found.now (sym c.in-None-behind_dot.ensures.rest) (sym c.in-Some.ensures))
    ∙ c.parts.invariant.1
