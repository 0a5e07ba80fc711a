use Rattle.std.proofs.Common.{subst, ap, ◌∙◌}
use Rattle.mx_ids.specs.declared.users.Users.{Users}
use Rattle.mx_poll.specs.OfEngine.Shown.{site_of, stops_of}
use Rattle.mx_serve.specs.Asked.{call_asked}
use Rattle.mx_serve.specs.Opens.{Opens}
use Rattle.mx_serve.specs.declared.call_asked.CallAsked.{CallAsked}
use Rattle.mx_serve.proofs.server.Server.open.Goals as goal

pub returns-in-Ok : goal.returns-in-Ok
returns-in-Ok g c =
    subst (λ (a : CallAsked). Opens (site_of c.args.self.now.engine) (stops_of c.args.self.now.engine) a c.open_asked.result)
    (c.in-Ok.ensures.asked ∙ ap (λ (u : Users). call_asked u c.args.call.now) c.users.ensures)
    (c.open_asked.ensures (site_of c.args.self.now.engine) (stops_of c.args.self.now.engine))
