use Rattle.std.proofs.Common.{sym, subst, arith}
use Rattle.mx_serve.specs.OfEngine.Shown.{stores_of}
use Rattle.mx_pool.specs.Connections.{change}
use Rattle.mx_pool.specs.Serving.{AreBegun}
use Rattle.mx_pool.proofs.Ending.{begun_all}
use Rattle.mx_pool.proofs.serving.serve_pool.Goals as goal

pub returns-clause-served : goal.returns-clause-served
returns-clause-served g c =
    let done = c.serve_all-served in
    let pairs = change (g.L.Listener.left c.args.listener.now) (g.L.Listener.left done.new.listener) in
    begun_all g.L.Listener.left g.N.Seating.service g.N.Seating.is_kind pairs (change c.args.spawner.now.plan.next c.wait_all.new.self.plan.next) done.result (stores_of c.gather.new.pass)
    done.new.book.total c.gather.new.share.amount c.gather.new.share.parts g.N.Ledger.parts
    (subst (λ s. AreBegun g.L.Listener.left pairs (change c.args.spawner.now.plan.next s.plan.next) done.result done.new.book.total) (sym c.wait_all.ensures) done.ensures.begun)
    c.audit.ensures.whole (omega (arith, c.requires.parts, c.take_all-all.ensures, c.gather.ensures.parts)) c.gather.ensures.within c.gather.ensures.served
