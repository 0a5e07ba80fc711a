use Rattle.mx_ids.proofs.Names.{user_of-user_id, user_of-server}
use Rattle.mx_ids.proofs.users.user_of_server_has_user_id.Goals as goal

pub returns-clause-form : goal.returns-clause-form
returns-clause-form c = user_of-user_id

pub returns-clause-server : goal.returns-clause-server
returns-clause-server c = user_of-server
