use Rattle.std.proofs.Common.{ℕ, List, ap₂, ◌∙◌}
use Rattle.std.proofs.lemmas.Result.{IfOk-weaker}
use Rattle.mx_ids.specs.declared.room_id.RoomId.{RoomId}
use Rattle.mx_unread.specs.Unread.{counts_at}
use Rattle.mx_unread.proofs.pooling.counts_with.Goals as goal

pub returns-clause-counts : goal.returns-clause-counts
returns-clause-counts c =
    let s = c.args.snapshot.now in
    IfOk-weaker c.counted_in.result _ _
    (λ n is. is ∙ ap₂ (λ (r : RoomId) (u : List ℕ). counts_at r u s.events s.receipts s.accounts c.args.at.now) c.in_ok-key.ensures.room c.in_ok-key.ensures.user) c.counted_in.ensures.counts
