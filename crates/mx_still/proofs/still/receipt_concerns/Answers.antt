use Rattle.std.proofs.Common.{◌∙◌, ◌+◌, ◌||◌, Some, ap, drop, sym}
use Rattle.mx_receipt.specs.declared.receipt.Receipt.{Receipt}
use Rattle.std.specs.List.{list_any}
use Rattle.std.specs.Option.{option_copied}
use Rattle.mx_rest.specs.Servers.{lists_of}
use Rattle.mx_still.specs.Concerns.{has_member}
use Rattle.mx_sync.proofs.Reaching.{none_more, one_more}
use Rattle.mx_still.proofs.still.receipt_concerns.Goals as goal

pub returns-in-Some : goal.returns-in-Some
returns-in-Some c =
    let test = λ (e : Receipt). has_member c.args.user.now (lists_of c.args.snapshot.now) e.room in
    ap (λ b. b || list_any test (drop (c.args.passed + 1) c.args.snapshot.now.receipts)) c.has_member.ensures
    ∙ one_more test c.args.passed c.args.snapshot.now.receipts (Some c.in-Some.receipt.now) (sym (ap option_copied c.in-Some.is) ∙ c.at.ensures)

pub returns-in-None : goal.returns-in-None
returns-in-None c =
    none_more (λ (e : Receipt). has_member c.args.user.now (lists_of c.args.snapshot.now) e.room) c.args.passed c.args.snapshot.now.receipts c.at.result
    c.at.ensures c.in-None.is
