use Rattle.std.proofs.Common.{sym, ◌∙◌}
use Rattle.mx_users.specs.UsersFile.{server_of}
use Rattle.mx_users.proofs.Utf8.{of_text, of_bytes}
use Rattle.mx_users.proofs.users_file.server_in.Goals as goal

pub returns-in-Ok : goal.returns-in-Ok
returns-in-Ok c = c.server_of.ensures ∙ sym (of_text server_of c.args.line.now c.in-Ok.line.now c.in-Ok.ensures.cases.0 c.in-Ok.ensures.cases.1)

pub returns-in-Err : goal.returns-in-Err
returns-in-Err c = sym (of_bytes server_of c.args.line.now c.in-Err.ensures.cases.0)
