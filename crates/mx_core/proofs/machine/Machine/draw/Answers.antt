use Rattle.std.proofs.Common.{◌<◌, length, ap, arith}
use Rattle.mx_core.specs.State.{State}
use Rattle.mx_core.proofs.Machines.{block_read, machine_drawn}
use Rattle.mx_core.proofs.Reached.{reached_bound}
use Rattle.mx_core.proofs.machine.Machine.draw.Goals as goal

pub overflow_add-self-inside : goal.overflow_add-self-inside
overflow_add-self-inside g c = omega (arith, reached_bound _ c.self.invariant.reached, c.self.invariant.limit, c.from.ensures, c.ranges.count)

pub invariant_of-self : goal.invariant_of-self
invariant_of-self g c =
    let within : c.from-holder.result < length c.self.inside.held.items = omega (arith, ap (λ (s : State g.row.I.Denot). length s.held) c.self.view_is, c.from-holder.ensures, c.requires.writer) in
    machine_drawn _ c.from-holder.result c.args.count c.from-2.result c.self.invariant within c.requires.count
    (block_read _ _ _ _ within c.index.ensures c.in-None.is) (omega (arith, c.from.ensures, c.from-2.ensures)) c.from-2.ensures

pub returns-clause-reached : goal.returns-clause-reached
returns-clause-reached g c =
    let within : c.from-holder.result < length c.self.inside.held.items = omega (arith, ap (λ (s : State g.row.I.Denot). length s.held) c.self.view_is, c.from-holder.ensures, c.requires.writer) in
    (machine_drawn _ c.from-holder.result c.args.count c.from-2.result c.self.invariant within c.requires.count
    (block_read _ _ _ _ within c.index.ensures c.in-None.is) (omega (arith, c.from.ensures, c.from-2.ensures)) c.from-2.ensures).reached
