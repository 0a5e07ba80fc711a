use Rattle.std.proofs.Common.{map, ap, ◌∙◌}
use Rattle.std.proofs.lemmas.Result.{IfOk-weaker}
use Rattle.mx_snapshot.specs.Events.{rooms_of}
use Rattle.mx_snapshot.specs.Looks.{own_now}
use Rattle.mx_snapshot.specs.Lists.{entries_in}
use Rattle.mx_snapshot.proofs.Looked.{own_is, no_rooms}
use Rattle.mx_snapshot.proofs.events.Events.rooms_of.Goals as goal

pub returns-in-Some : goal.returns-in-Some
returns-in-Some c =
    IfOk-weaker c.gather_rooms.result _ _ (λ made h. h ∙ own_is c.self.inside.events.items c.args.user.now c.in-Some.rooms.now.entries c.self.invariant.0
    (ap entries_in c.in-Some.ensures.value ∙ c.self.invariant.1.own c.args.user.now) ∙ ap (rooms_of c.args.user.now) c.self.view_is) c.gather_rooms.ensures

pub returns-in-None : goal.returns-in-None
returns-in-None c =
    ap (map own_now) c.new.ensures.items
    ∙ no_rooms (rooms_of c.args.user.now c.self.inside.events.items) (ap entries_in c.in-None.ensures.value ∙ c.self.invariant.1.own c.args.user.now)
    ∙ ap (rooms_of c.args.user.now) c.self.view_is
