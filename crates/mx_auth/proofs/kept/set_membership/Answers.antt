use Rattle.mx_auth.proofs.Maps.{keys_set, membership_set}
use Rattle.mx_auth.proofs.kept.set_membership.Goals as goal

pub returns-in-Some-clause-set : goal.returns-in-Some-clause-set
returns-in-Some-clause-set c =
    let w = c.args.membership in
    membership_set c.args.memberships.now (c.get_mut.follows.lender w) c.args.key.now w ((c.get_mut.follows.holds w).3 c.requires)

pub returns-in-Some-clause-keys : goal.returns-in-Some-clause-keys
returns-in-Some-clause-keys c =
    let w = c.args.membership in
    keys_set c.args.memberships.now (c.get_mut.follows.lender w) c.args.key.now w ((c.get_mut.follows.holds w).3 c.requires)
