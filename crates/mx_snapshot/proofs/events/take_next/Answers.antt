use Rattle.std.proofs.Common.{OnOk, length, sym, subst}
use Rattle.mx_event.specs.Shown.{position_of}
use Rattle.mx_snapshot.specs.Indexed.{IsIndexed}
use Rattle.mx_snapshot.proofs.Found.{next_place, take_next}
use Rattle.mx_snapshot.proofs.events.take_next.Goals as goal

pub take_in-requires : goal.take_in-requires
take_in-requires c = next_place position_of c.args.events.now.items c.args.passed (length c.args.index.now.firsts.items) c.in-Some.event.now c.requires.placed c.requires.within c.requires.indexed.marks (sym c.in-Some.ensures.item)

pub returns-in-Some : goal.returns-in-Some
returns-in-Some c =
    subst (λ l. OnOk c.take_in.result (IsIndexed c.take_in.new.self l)) (take_next c.args.events.now.items c.args.passed c.in-Some.event.now (sym c.in-Some.ensures.item)) (c.take_in.ensures _ c.requires.indexed)
