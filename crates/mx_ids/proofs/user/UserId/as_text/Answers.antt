use Rattle.std.proofs.Common.{subst}
use Rattle.mx_ids.specs.User.{IsUserId}
use Rattle.mx_ids.proofs.Form.{user_from_test}
use Rattle.mx_ids.proofs.user.UserId.as_text.Goals as goal

pub returns-clause-form : goal.returns-clause-form
returns-clause-form c = subst IsUserId c.self.view_is (user_from_test _ c.self.invariant)
