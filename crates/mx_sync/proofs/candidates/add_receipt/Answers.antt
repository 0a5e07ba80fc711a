use Rattle.std.proofs.Common.{◌∙◌, ◌+◌, ◌||◌, Some, ap, drop, sym}
use Rattle.std.proofs.lemmas.Result.{IfOk-weaker}
use Rattle.std.specs.List.{list_any}
use Rattle.std.specs.Option.{option_copied}
use Rattle.mx_ids.specs.declared.room_id.RoomId.{RoomId}
use Rattle.mx_event.specs.Lawful.{same_room}
use Rattle.mx_receipt.specs.declared.receipt.Receipt.{Receipt}
use Rattle.mx_sync.specs.Quiet.{has_room}
use Rattle.mx_sync.proofs.Reaching.{none_more, one_more, passed_on}
use Rattle.mx_sync.proofs.candidates.add_receipt.Goals as goal

pub returns-in-Some : goal.returns-in-Some
returns-in-Some c =
    let es = c.args.snapshot.now.receipts in
    let receipt : Receipt = c.in-Some.receipt.now in
    let rest = λ (r : RoomId). list_any (λ (e : Receipt). same_room e.room r) (drop (c.args.passed + 1) es) in
    IfOk-weaker c.insert.result _ _
    (λ _ more r. ap (λ b. b || rest r) (more r)
    ∙ passed_on (same_room receipt.room r) (has_room c.args.rooms.now r) (rest r)
    ∙ ap (λ b. has_room c.args.rooms.now r || b)
    (one_more (λ (e : Receipt). same_room e.room r) c.args.passed es (Some receipt) (sym (ap option_copied c.in-Some.is) ∙ c.at.ensures))) c.insert.ensures

pub returns-in-None : goal.returns-in-None
returns-in-None c = λ r.
    ap (λ b. has_room c.args.rooms.now r || b)
    (none_more (λ (e : Receipt). same_room e.room r) c.args.passed c.args.snapshot.now.receipts c.at.result c.at.ensures c.in-None.is)
