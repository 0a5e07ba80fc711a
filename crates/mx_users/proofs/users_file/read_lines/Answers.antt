use Rattle.std.proofs.Common.{sym, ◌∙◌, arith}
use Rattle.std.proofs.lemmas.Result.{err_from_is_err_and}
use Rattle.mx_users.specs.declared.user_list.UserList.{UserList}
use Rattle.mx_users.proofs.Lines.{handed_on, line_refused, line_taken, shorter}
use Rattle.mx_users.proofs.users_file.read_lines.Goals as goal

pub returns-in_err-list : goal.returns-in_err-list
returns-in_err-list c =
    let l = c.lines in
    let refused = line_refused l.list.users l.before l.rest.now c.cut_line.result.0.now c.cut_line.result.1.now c.cut_line.ensures.before c.cut_line.ensures.after in
    let p = err_from_is_err_and c.from_residual.result c.from_residual.ensures.1 in
    rw (p.1, p.2) (handed_on {A = UserList} {B = UserList} _ _ (λ l. l.users) (λ l. l.users) c.in_err-list.field-0.0 (λ m e. sym l.invariant.0 ∙ refused m e) c.in_err-list.ensures)

pub lines-preserved : goal.lines-preserved
lines-preserved c =
    let l = c.lines in
    let taken = line_taken l.list.users l.before l.rest.now c.cut_line.result.0.now c.cut_line.result.1.now c.cut_line.ensures.before c.cut_line.ensures.after c.in_ok-list.list.users c.in_ok-list.ensures in
    let less = shorter l.rest.now c.cut_line.result.1.now (sym c.is_empty.ensures ∙ c.lines-test.true) c.cut_line.ensures.after in
    (sym taken ∙ l.invariant.0, omega (arith, less, l.invariant.1))
