use Rattle.std.proofs.Common.{refl}
use Rattle.mx_ids.specs.Ids.{event_id_at, is_server_part}
use Rattle.mx_ids.specs.Mark.{marked_at}
use Rattle.mx_fold_rows.specs.Redacted.{RedactionSent, RedactionHidden, SentRedacted, SentBefore, CopyRedacted, CopyStays}

pub redaction_sent : RedactionSent
unfolding event_id_at is_server_part marked_at
redaction_sent = refl

pub redaction_hidden : RedactionHidden
unfolding event_id_at is_server_part marked_at
redaction_hidden = refl

pub sent_redacted : SentRedacted
unfolding event_id_at is_server_part marked_at
sent_redacted = refl

pub sent_before : SentBefore
unfolding event_id_at is_server_part marked_at
sent_before = refl

pub copy_redacted : CopyRedacted
unfolding event_id_at is_server_part marked_at
copy_redacted = refl

pub copy_stays : CopyStays
unfolding event_id_at is_server_part marked_at
copy_stays = refl
