use Rattle.std.proofs.Common.{◌≡◌, None, Some, Option, sym, subst}
use Rattle.std.specs.Prelude.{IfOk, IsErrOf}
use Rattle.mx_ids.specs.declared.users.Users.{Users}
use Rattle.mx_users.specs.UsersFile.{with_text}
use Rattle.mx_users.specs.declared.fault.LineFault.TheVariants.{Broken}
use Rattle.mx_users.proofs.Utf8.{of_text, of_bytes}
use Rattle.mx_users.proofs.users_file.read_bytes.Goals as goal

pub returns-in-Ok : goal.returns-in-Ok
returns-in-Ok c =
    let same = sym (of_text (with_text c.args.list.users) c.args.line.now c.in-Ok.text.now c.in-Ok.ensures.cases.0 c.in-Ok.ensures.cases.1) in
    let r = c.read_text.result in
    record {
      found = subst (λ (o : Option Users). IfOk r (λ l. o ≡ Some l.users)) same c.read_text.ensures.found;
      broken = subst (λ (o : Option Users). IsErrOf r Broken → o ≡ None) same c.read_text.ensures.broken;
    }

pub returns-in-Err-clause-broken : goal.returns-in-Err-clause-broken
returns-in-Err-clause-broken c = λ _. of_bytes (with_text c.args.list.users) c.args.line.now c.in-Err.ensures.cases.0
