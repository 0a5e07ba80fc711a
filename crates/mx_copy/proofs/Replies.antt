-- What is read of a reply to a sync.
use Rattle.std.proofs.Common.{option_and_then, refl, ap, ◌∙◌}
use Rattle.mx_ids.specs.Ids.{room_id_text}
use Rattle.mx_sync.specs.declared.sync_reply.InvitedRoom.{InvitedRoom}
use Rattle.mx_sync.specs.declared.sync_reply.JoinedRoom.{JoinedRoom}
use Rattle.mx_sync.specs.declared.sync_reply.LeftRoom.{LeftRoom}
use Rattle.mx_sync_json.specs.Rooms.{invited_form, joined_form, left_form}
use Rattle.mx_copy.specs.Laws.{RepliesReadBack}
use Rattle.mx_copy.specs.Replies.{reply_in}
use Rattle.mx_copy.specs.Rooms.{invited_of, part_of, room_of}
use Rattle.mx_copy.specs.Sent.{invited_sent, joined_sent, left_sent, reply_sent}
use Rattle.mx_copy.proofs.Folded.{keyed_back}
use Rattle.mx_copy.proofs.Looks.{next, object_back, text_back}
use Rattle.mx_copy.proofs.Rooms.{account_back, invited_back, joined_back, left_back}

pub replies_read_back : RepliesReadBack
replies_read_back server device r =
    let sent = reply_sent server device r in
    let front = r.next.e in
    ap (option_and_then reply_in) (object_back _)
    ∙ next _ _ sent.next _ (text_back sent.next)
    (next _ _ sent.account _ (account_back r.account)
    (next _ _ _ _ (object_back _)
    (next _ _ sent.joined _ (keyed_back room_of (λ (x : JoinedRoom). room_id_text server x.room) (joined_form server device front) (joined_sent server device front) (joined_back server device front) r.joined)
    (next _ _ sent.invited _ (keyed_back invited_of (λ (x : InvitedRoom). room_id_text server x.room) invited_form invited_sent invited_back r.invited)
    (next _ _ sent.left _ (keyed_back part_of (λ (x : LeftRoom). room_id_text server x.room) (left_form server device front) (left_sent server device front) (left_back server device front) r.left)
    refl)))))
