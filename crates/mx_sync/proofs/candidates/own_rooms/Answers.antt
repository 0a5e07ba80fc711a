use Rattle.std.proofs.Common.{List, ℕ, ap, map, ◌∙◌}
use Rattle.std.proofs.lemmas.Result.{IfOk-weaker}
use Rattle.std.specs.List.{list_any}
use Rattle.mx_rest.specs.Servers.{lists_of}
use Rattle.mx_snapshot.specs.Events.{rooms_of}
use Rattle.mx_snapshot.specs.Looks.{own_now}
use Rattle.mx_sync.specs.Asks.{asked}
use Rattle.mx_sync.proofs.Listed.{is_at}
use Rattle.mx_sync.proofs.Unsaid.{own_are_all}
use Rattle.mx_sync.proofs.candidates.own_rooms.Goals as goal

pub returns : goal.returns
returns c =
    IfOk-weaker c.set_of-rooms.result _ _
    (λ rooms same. own_are_all (lists_of c.args.snapshot.now) c.args.ask.now.user.now (asked c.args.ask.now) c.front-front.ensures.placed rooms
    (λ r. same r ∙ ap (list_any (is_at r)) (ap (map own_now) c.deref.ensures.value ∙ c.in_ok-own.ensures ∙ ap (λ (u : List ℕ). rooms_of u c.args.snapshot.now.events) c.as_str.ensures.text))) c.set_of-rooms.ensures
