use Rattle.std.proofs.Common.{None}
use Rattle.mx_auth.proofs.Maps.{keys_set, membership_place}
use Rattle.mx_auth.proofs.kept.make_place_at.Goals as goal

pub returns-in_ok-insert-clause-same : goal.returns-in_ok-insert-clause-same
returns-in_ok-insert-clause-same c =
    membership_place c.args.memberships.now c.insert.new.self c.args.key.now c.in_ok-from_str.field-0 c.contains_key.result c.in_ok-from_str.ensures.ok c.contains_key.ensures c.if-not-contains_key.true c.in_ok-insert.ensures.updates

pub returns-in_ok-insert-clause-keys : goal.returns-in_ok-insert-clause-keys
returns-in_ok-insert-clause-keys c =
    keys_set c.args.memberships.now c.insert.new.self _ None c.in_ok-insert.ensures.updates
