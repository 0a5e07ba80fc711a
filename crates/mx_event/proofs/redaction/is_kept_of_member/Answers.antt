use Rattle.std.proofs.Common.{refl}
use Rattle.mx_event.proofs.Texts.{miss}
use Rattle.mx_event.proofs.redaction.is_kept_of_member.Goals as goal

pub returns-in_default : goal.returns-in_default
returns-in_default c = rw (miss _ _ c.in_default.not-membership, miss _ _ c.in_default.not-join_authorised_via_users_server) refl
