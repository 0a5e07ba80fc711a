use Rattle.std.proofs.Common.{sym, subst, ◌∙◌}
use Rattle.mx_restore.specs.Batches.{IsSaidBy}
use Rattle.mx_restore.proofs.Batches.{front_is}
use Rattle.mx_restore.proofs.reading.read_first.Goals as goal

pub returns-in_ok-push_line-in-Line-clause-read : goal.returns-in_ok-push_line-in-Line-clause-read
returns-in_ok-push_line-in-Line-clause-read c =
    let bytes = c.args.bytes.now in
    let behind = c.in-Line.behind.now in
    let text = c.in-Line.text.now in
    let is = c.in-Line.ensures in
    let pushed = c.in_ok-push_line-in-Line.ensures.pushed in
    let value = c.in_ok-value-in-Line.value in
    let said = subst (IsSaidBy value) (sym pushed.3) c.in_ok-said-in-Line.ensures in
    (text, is.0, pushed.0, pushed.1, (is.1, pushed.2 ∙ front_is bytes behind text is.0, (value, c.in_ok-value-in-Line.ensures.read, said)))
