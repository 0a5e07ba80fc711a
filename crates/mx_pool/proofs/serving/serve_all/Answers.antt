use denote.Exit.{no}
use denote.Param.{param, copied}
use denote.Param.Send.{param_send, arg_send}
use Rattle.std.proofs.Common.{true, false, refl, arith}
use Rattle.mx_pool.specs.Connections.{ends_by}
use Rattle.mx_pool.specs.contracts.connection.Connection as Connection
use Rattle.mx_pool.proofs.Crosses.{connection_send}
use Rattle.mx_pool.specs.declared.serving.Served.TheVariants as served
use Rattle.mx_pool.proofs.Counting.{begun_refused, begun_still, given_one, start_more, taken_more}
use Rattle.mx_pool.proofs.serving.serve_all.Goals as goal

pub invariant_of-connection : goal.invariant_of-connection
invariant_of-connection g c =
    let kinds = ends_by g.L.In.Source.left g.L.Out.Sink.written g.L.In.Source.faults g.L.Out.Sink.faults in record {
      kind = ∣
          c.requires.kind (kinds (c.in-Pair.input, c.in-Pair.output))
          (given_one g.L.Listener.left (g.L.Listener.left c.args.listener.now) c.connections.listener c.accept.new.self c.connections.book.total kinds c.in-Pair.input c.in-Pair.output
          c.connections.invariant.5 c.in-Pair.ensures.pairs)
          ∣₁;
    }

pub connections-preserved : goal.connections-preserved
connections-preserved g c =
    let old = c.connections in
    let now = old.invariant in (
      tt,
      tt,
      (let a = now.2 in omega (arith, a, c.in-Pair.ensures.count)),
      (let b = now.3 in omega (arith, b, c.in-Running.ensures.count)),
      start_more false old.spawner.plan c.start.new.self.plan c.args.spawner.now.plan.next old.book.total c.take-in-Pair.new.book.total c.in-Running.ensures.plan now.4 c.take-in-Pair.ensures,
      taken_more g.L.Listener.left (g.L.Listener.left c.args.listener.now) old.listener c.accept.new.self old.book.total c.take-in-Pair.new.book.total c.in-Pair.input c.in-Pair.output
          c.take-in-Pair.ensures now.5 c.in-Pair.ensures.pairs,
    )

pub returns-in-Refused-clause-begun : goal.returns-in-Refused-clause-begun
returns-in-Refused-clause-begun g c =
    let old = c.connections in
    let now = old.invariant in
    let start = g.L.Listener.left c.args.listener.now in
    begun_refused g.L.Listener.left start old.listener c.accept.new.self old.book.total c.leave.new.book.total c.take-in-Pair.new.book.total c.args.spawner.now.plan.next c.start.new.self.plan.next c.leave.ensures
    (start_more true old.spawner.plan c.start.new.self.plan c.args.spawner.now.plan.next old.book.total c.take-in-Pair.new.book.total c.in-Refused.ensures.plan now.4 c.take-in-Pair.ensures)
    (taken_more g.L.Listener.left start old.listener c.accept.new.self old.book.total c.take-in-Pair.new.book.total c.in-Pair.input c.in-Pair.output c.take-in-Pair.ensures now.5 c.in-Pair.ensures.pairs)

pub returns-in-Err-clause-begun : goal.returns-in-Err-clause-begun
returns-in-Err-clause-begun g c =
    let old = c.connections in
    begun_still g.L.Listener.left (g.L.Listener.left c.args.listener.now) old.listener old.listener old.book.total _ c.args.spawner.now.plan.next old.spawner.plan.next refl
    refl old.invariant.4 old.invariant.5

pub returns-in-Closed-clause-begun : goal.returns-in-Closed-clause-begun
returns-in-Closed-clause-begun g c =
    let old = c.connections in
    begun_still g.L.Listener.left (g.L.Listener.left c.args.listener.now) old.listener c.accept.new.self old.book.total served.Closed c.args.spawner.now.plan.next old.spawner.plan.next refl
    c.in-Closed.ensures.pairs.1 old.invariant.4 old.invariant.5

pub returns-in-Failed-clause-begun : goal.returns-in-Failed-clause-begun
returns-in-Failed-clause-begun g c =
    let old = c.connections in
    begun_still g.L.Listener.left (g.L.Listener.left c.args.listener.now) old.listener c.accept.new.self old.book.total served.ListenFailed c.args.spawner.now.plan.next old.spawner.plan.next refl
    c.in-Failed.ensures.pairs old.invariant.4 old.invariant.5

pub start-requires-send-J : goal.start-requires-send-J
start-requires-send-J g c κs within = let b = c.type_bounds in
    let N = param 0 g.row.N in let G = param 1 g.row.G in let C = param 3 g.row.C in let R = copied 4 g.row.R in
    let Ev = param 5 g.row.G-Events in let Re = param 6 g.row.G-Receipts in let Ac = param 7 g.row.G-Accounts in let S = param 8 g.row.L-In in let K = param 9 g.row.L-Out in
    param_send 1 _ (arg_send _ no (Connection.the_row N G S K C R Ev Re Ac g.N.Seating g.G.Gate g.G.Events.Folds _ g.G.Receipts.Folds _ g.G.Accounts.Folds _ g.L.In.Source g.L.Out.Sink g.N.Ledger)
    (connection_send N g.N.Seating g.N.Ledger G Ev Re Ac g.G.Gate g.G.Events.Folds g.G.Receipts.Folds g.G.Accounts.Folds S K C R g.L.In.Source g.L.Out.Sink
    b.send-G b.sync-G b.send-G-Events b.send-G-Receipts b.send-G-Accounts b.send-L-In b.send-L-Out b.send-C b.send-R))
