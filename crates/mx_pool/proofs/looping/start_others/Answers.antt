use denote.Exit.{no}
use denote.Param.{param, copied}
use denote.Param.Send.{param_send, arg_send}
use Rattle.mx_pool.specs.contracts.looping.Looping as Looping
use Rattle.mx_pool.proofs.Crosses.{looping_send}
use Rattle.mx_pool.proofs.looping.start_others.Goals as goal

pub start-requires-send-J : goal.start-requires-send-J
start-requires-send-J g c κs within = let b = c.type_bounds in
    let G = param 0 g.row.G in let C = param 1 g.row.C in let Q = param 2 g.row.Q in let R = copied 3 g.row.R in
    let Ev = param 4 g.row.G-Events in let Re = param 5 g.row.G-Receipts in let Ac = param 6 g.row.G-Accounts in let Port = param 7 g.row.Q-Port in
    param_send 1 _ (arg_send _ no (Looping.the_row G Q C R Ev Re Ac Port g.G.Gate g.G.Events.Folds _ g.G.Receipts.Folds _ g.G.Accounts.Folds _ g.Q.Ports g.Q.Port.Port)
    (looping_send G Ev Re Ac g.G.Gate g.G.Events.Folds g.G.Receipts.Folds g.G.Accounts.Folds Q Port C R g.Q.Ports g.Q.Port.Port
    b.send-G b.sync-G b.send-G-Events b.send-G-Receipts b.send-G-Accounts b.send-Q b.send-C b.send-R))
