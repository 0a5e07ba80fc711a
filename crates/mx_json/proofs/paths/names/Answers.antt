use Rattle.std.proofs.Common.{◌∙◌}
use Rattle.mx_json.proofs.Dotted.{named_is}
use Rattle.mx_json.proofs.paths.names.Goals as goal

pub returns : goal.returns
returns c = c.is_named.ensures ∙ named_is c.args.path.now c.args.key.now c.utf8.path c.utf8.key
