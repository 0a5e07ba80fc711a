use Rattle.std.proofs.Common.{◌<◌, length, ap, sym, arith}
use Rattle.mx_core.specs.State.{State}
use Rattle.mx_core.proofs.Machines.{block_read, machine_stored}
use Rattle.mx_core.proofs.machine.Machine.store.Goals as goal

pub invariant_of-self-2 : goal.invariant_of-self-2
invariant_of-self-2 g c =
    let within : c.from-holder.result < length c.self.inside.held.items = omega (arith, ap (λ (s : State g.row.I.Denot). length s.held) c.self.view_is, c.from-holder.ensures, c.requires.writer) in
    machine_stored _ c.from-holder.result c.args.writer c.in-Some.block c.args.items c.push.new.self.items c.self.invariant within
    (block_read _ _ _ _ within c.index.ensures c.in-Some.is) (omega arith) (sym c.from-holder.ensures) c.in_ok-push.ensures.items

pub returns-clause-reached : goal.returns-clause-reached
returns-clause-reached g c =
    let within : c.from-holder.result < length c.self.inside.held.items = omega (arith, ap (λ (s : State g.row.I.Denot). length s.held) c.self.view_is, c.from-holder.ensures, c.requires.writer) in
    (machine_stored _ c.from-holder.result c.args.writer c.in-Some.block c.args.items c.push.new.self.items c.self.invariant within
    (block_read _ _ _ _ within c.index.ensures c.in-Some.is) (omega arith) (sym c.from-holder.ensures) c.in_ok-push.ensures.items).reached
