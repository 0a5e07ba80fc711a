-- What is kept of a room may go to another thread, and threads may share it.
use denote.Param.Send.{IsSend, IsSync, view_send, view_sync, sendable}
use denote.Param.SendFields.{declared_send, declared_sync, variants_send, variants_sync}
use Rattle.mx_auth.specs.contracts.state.AuthState as AuthState
use Rattle.mx_auth.specs.contracts.state.AuthState.TheInside as inside
use Rattle.std.proofs.Crossing.{crosses}
use Rattle.std.proofs.MapsCrossing.{crosses as maps}
use Rattle.mx_ids.proofs.user.UserId.TheSendSync as user
use Rattle.mx_ids.proofs.text.Text.TheSendSync as text
use Rattle.mx_json.specs.contracts.value.Json as Json
use Rattle.mx_json.proofs.value.Json.TheLaws.TheKnot.{crosses as json}
use Rattle.mx_auth.specs.contracts.kept.Kept as Kept
use Rattle.mx_auth.specs.contracts.kept.Change as Change
use Rattle.mx_auth.proofs.places.Places.TheSendSync as places
use Rattle.mx_auth.proofs.taken.Taken.TheSendSync as taken

pub json_send : IsSend Json.the_row
json_send = search (sendable, crosses, json) depth 30

pub json_sync : IsSync Json.the_row
json_sync = search (sendable, crosses, json) depth 30

change_send : IsSend Change.the_row
change_send = variants_send Change.enum (tt, ((user.the_send, tt), ((search (text.the_send, sendable) depth 9, tt), ((json_send, tt), ((search (text.the_send, sendable) depth 9, tt), tt)))))

change_sync : IsSync Change.the_row
change_sync = variants_sync Change.enum (tt, ((user.the_sync, tt), ((search (text.the_sync, sendable) depth 9, tt), ((json_sync, tt), ((search (text.the_sync, sendable) depth 9, tt), tt)))))

kept_send : IsSend Kept.the_row
kept_send = search (json_send, user.the_send, text.the_send, places.the_send, sendable, crosses, maps) depth 30

kept_sync : IsSync Kept.the_row
kept_sync = search (json_sync, user.the_sync, text.the_sync, places.the_sync, sendable, crosses, maps) depth 30

pub send : IsSend AuthState.the_row
send = view_send inside.the_row _ _ _ _ (declared_send inside.the_type (search sendable depth 9, (kept_send, (search (change_send, crosses, sendable) depth 9, (taken.the_send, (taken.the_send, tt))))))

pub sync : IsSync AuthState.the_row
sync = view_sync inside.the_row _ _ _ _ (declared_sync inside.the_type (search sendable depth 9, (kept_sync, (search (change_sync, crosses, sendable) depth 9, (taken.the_sync, (taken.the_sync, tt))))))
