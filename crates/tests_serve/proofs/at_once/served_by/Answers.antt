use denote.Param.Send.{sendable}
use Rattle.mx_restore.proofs.Crosses.{accounts_send, rooms_send}
use Rattle.tests_serve.proofs.at_once.served_by.Goals as goal

pub serve-served-requires-send-G-Events : goal.serve-served-requires-send-G-Events
serve-served-requires-send-G-Events g c κs within = search (rooms_send, sendable) depth 10

pub serve-served-requires-send-G-Accounts : goal.serve-served-requires-send-G-Accounts
serve-served-requires-send-G-Accounts g c κs within = search (accounts_send, sendable) depth 10
