use Rattle.std.proofs.Common.{rules}
use Rattle.std.proofs.lemmas.Str.{IsUtf8-had}
use Rattle.mx_http.proofs.Paths.{decodes}
use Rattle.mx_http.proofs.parameters.decoded_part.Goals as goal

pub returns-in-Ok : goal.returns-in-Ok
returns-in-Ok c = decodes c.args.part.now _ _ c.from_string.ensures (search rules) (IsUtf8-had _ c.in-Ok.text.ok)
