use Rattle.std.proofs.Common.{}
use Rattle.mx_rules.proofs.Pushing.{pushed_two}
use Rattle.mx_rules.proofs.builtin.Builtin.push_conditions.Goals as goal

pub returns-in_ok-push_match-in-RoomNotif : goal.returns-in_ok-push_match-in-RoomNotif
returns-in_ok-push_match-in-RoomNotif c = rw c.in-RoomNotif.is (pushed_two c.push_permission-in-RoomNotif.result _ _ _ _ _ c.in_ok-push_match-in-RoomNotif.ensures c.push_permission-in-RoomNotif.ensures)

pub returns-in_ok-push_match-in-Tombstone : goal.returns-in_ok-push_match-in-Tombstone
returns-in_ok-push_match-in-Tombstone c = rw c.in-Tombstone.is (pushed_two c.push_match-in-Tombstone-2.result _ _ _ _ _ c.in_ok-push_match-in-Tombstone.ensures c.push_match-in-Tombstone-2.ensures)
