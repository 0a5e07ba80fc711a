use Rattle.mx_push.specs.Settings.{setting_of}
use Rattle.std.proofs.Common.{◌∙◌, ap}
use Rattle.std.specs.Prelude.{option_and_then}
use Rattle.mx_json.specs.Lookups.{lookup, path_parts}
use Rattle.mx_push.proofs.Paths.{in_content, in_redacts}
use Rattle.mx_push.proofs.property.property_at.Goals as goal

pub returns-in-Some : goal.returns-in-Some
returns-in-Some c = in_content c.args.path.now (setting_of c.args.context.now) c.args.event.now _ c.in-Some.rest.now c.in-Some.ensures c.value_at.ensures

pub returns-in-Some-behind : goal.returns-in-Some-behind
returns-in-Some-behind c =
    in_redacts c.args.path.now (setting_of c.args.context.now) c.args.event.now _ c.in-Some-behind.rest.now c.in-None.ensures c.in-Some-behind.ensures
    (c.value_at-in-Some-behind.ensures ∙ ap (option_and_then (lookup (path_parts c.in-Some-behind.rest.now))) c.redacts.ensures)
