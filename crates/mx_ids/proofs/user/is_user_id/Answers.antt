use Rattle.mx_ids.proofs.Form.{user_iff_test}
use Rattle.mx_ids.proofs.user.is_user_id.Goals as goal

pub returns-clause-form : goal.returns-clause-form
returns-clause-form c = user_iff_test c.args.text.now c.is_user_id_text.result c.is_user_id_text.ensures
