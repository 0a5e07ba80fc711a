use Rattle.mx_users.proofs.Valid.{users_in_valid}
use Rattle.mx_users.proofs.users_file.read_users.Goals as goal

pub invariant_of-result : goal.invariant_of-result
invariant_of-result c =
    let list = c.in_ok-users.field-0 in
    record {
      valid = users_in_valid c.args.bytes.now list.users c.in_ok-users.ensures;
      numbered = list.numbered;
      tokened = list.tokened;
    }
