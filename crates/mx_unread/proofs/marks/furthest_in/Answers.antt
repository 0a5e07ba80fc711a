use Rattle.std.proofs.Common.{◌∙◌, ap₂, max}
use Rattle.mx_unread.proofs.Furthest.{furthest_is}
use Rattle.mx_unread.proofs.marks.furthest_in.Goals as goal

pub returns : goal.returns
returns c =
    c.max.ensures ∙ ap₂ max c.in_ok-public.ensures c.in_ok-private.ensures
    ∙ furthest_is c.args.room.now c.args.user.now c.args.low c.args.r c.args.receipts.now
