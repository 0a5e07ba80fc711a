use Rattle.std.proofs.Common.{None, arith}
use Rattle.std.proofs.lemmas.Str.Pattern.{split_once_first}
use Rattle.mx_ids.proofs.Form.{no_colon}
use Rattle.mx_ids.proofs.user.is_user_id_text.Goals as goal

pub returns-in-None : goal.returns-in-None
returns-in-None c = no_colon c.args.text.now (split_once_first 58 c.args.text.now None c.in-None.ensures.cases (omega arith))
