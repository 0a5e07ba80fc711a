use Rattle.mx_users.proofs.Valid.{refused}
use Rattle.mx_users.proofs.users_file.checked_id.Goals as goal

pub returns-in-None-clause-broken : goal.returns-in-None-clause-broken
returns-in-None-clause-broken c = λ _. refused c.args.text c.in-None.ensures
