use Rattle.std.proofs.Common.{refl}
use Rattle.mx_event.proofs.Texts.{miss}
use Rattle.mx_event.proofs.redaction.is_kept_of_power_levels.Goals as goal

pub returns-in_default : goal.returns-in_default
returns-in_default c =
    let o = c.in_default in
    rw (miss _ _ o.not-ban, miss _ _ o.not-events, miss _ _ o.not-events_default, miss _ _ o.not-invite, miss _ _ o.not-kick, miss _ _ o.not-redact, miss _ _ o.not-state_default, miss _ _ o.not-users, miss _ _ o.not-users_default) refl
