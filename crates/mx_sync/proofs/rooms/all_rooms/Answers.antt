use Rattle.std.proofs.Common.{List, IfOk, refl, subst, ◌≡◌}
use Rattle.mx_rest.specs.Servers.{lists_of}
use Rattle.mx_sync.specs.Asks.{asked}
use Rattle.mx_sync.specs.Replies.{invited_of, joined_of, left_of}
use Rattle.mx_sync.specs.declared.sync_reply.InvitedRoom.{InvitedRoom}
use Rattle.mx_sync.specs.declared.sync_reply.JoinedRoom.{JoinedRoom}
use Rattle.mx_sync.specs.declared.sync_reply.LeftRoom.{LeftRoom}
use Rattle.mx_sync.proofs.Walked.{walked_is}
use Rattle.mx_sync.proofs.rooms.all_rooms.Goals as goal

pub returns-clause-joined : goal.returns-clause-joined
returns-clause-joined c =
    subst (λ (rs : List JoinedRoom). IfOk c.said_lists-lists.result (λ r. r.joined.items ≡ rs))
    (walked_is joined_of refl (lists_of c.args.snapshot.now) c.args.ask.now.user.now (asked c.args.ask.now) c.front-front.ensures.placed c.in_ok-rooms.rooms c.len-count.ensures.ordered c.in_ok-rooms.ensures)
    c.said_lists-lists.ensures.joined

pub returns-clause-invited : goal.returns-clause-invited
returns-clause-invited c =
    subst (λ (rs : List InvitedRoom). IfOk c.said_lists-lists.result (λ r. r.invited.items ≡ rs))
    (walked_is invited_of refl (lists_of c.args.snapshot.now) c.args.ask.now.user.now (asked c.args.ask.now) c.front-front.ensures.placed c.in_ok-rooms.rooms c.len-count.ensures.ordered c.in_ok-rooms.ensures)
    c.said_lists-lists.ensures.invited

pub returns-clause-left : goal.returns-clause-left
returns-clause-left c =
    subst (λ (rs : List LeftRoom). IfOk c.said_lists-lists.result (λ r. r.left.items ≡ rs))
    (walked_is left_of refl (lists_of c.args.snapshot.now) c.args.ask.now.user.now (asked c.args.ask.now) c.front-front.ensures.placed c.in_ok-rooms.rooms c.len-count.ensures.ordered c.in_ok-rooms.ensures)
    c.said_lists-lists.ensures.left
