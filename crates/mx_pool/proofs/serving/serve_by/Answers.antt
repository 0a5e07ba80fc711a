use Rattle.std.proofs.Common.{sym, subst}
use Rattle.mx_fold.specs.Lists.{Grows}
use Rattle.mx_serve.specs.OfEngine.Shown.{stores_of}
use Rattle.mx_serve.proofs.OfEngine.Done.{all_self}
use Rattle.mx_pool.proofs.Ending.{begun_none}
use Rattle.mx_pool.proofs.serving.serve_by.Goals as goal

pub returns-in-Err-clause-own : goal.returns-in-Err-clause-own
returns-in-Err-clause-own g c = subst (λ lists. Grows (stores_of c.args.pass) lists) (sym c.make_seats.ensures.same) (all_self (stores_of c.args.pass))

pub returns-in-Err-clause-served : goal.returns-in-Err-clause-served
returns-in-Err-clause-served g c =
    begun_none g.L.Listener.left g.N.Seating.service g.N.Seating.is_kind (g.L.Listener.left c.args.listener.now) c.args.spawner.now.plan.next (stores_of c.make_seats.new.pass)

pub returns-in-Err-new-clause-own : goal.returns-in-Err-new-clause-own
returns-in-Err-new-clause-own g c = subst (λ lists. Grows (stores_of c.args.pass) lists) (sym c.make_seats.ensures.same) (all_self (stores_of c.args.pass))

pub returns-in-Err-new-clause-served : goal.returns-in-Err-new-clause-served
returns-in-Err-new-clause-served g c =
    begun_none g.L.Listener.left g.N.Seating.service g.N.Seating.is_kind (g.L.Listener.left c.args.listener.now) c.args.spawner.now.plan.next (stores_of c.make_seats.new.pass)
