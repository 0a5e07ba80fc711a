use Rattle.mx_http.specs.Answers.{body_text}
use Rattle.mx_poll.specs.OfEngine.Shown.{site_of, stops_of, stores_of}
use Rattle.mx_serve.specs.Asked.{call_asked}
use Rattle.mx_loop.specs.Stands.{sight}
use Rattle.mx_loop.proofs.Replying.{put_up}
use Rattle.mx_loop.proofs.line.Line.go.Goals as goal

pub returns-in-Done-clause-stands : goal.returns-in-Done-clause-stands
returns-in-Done-clause-stands g c = λ start h.
    let r = c.args.rest in
    let told = c.in-Done.told in
    (put_up (site_of c.args.server.now.engine) (stops_of c.args.server.now.engine) c.args.server.now.limit start (stores_of c.args.pass.now) (stores_of c.poll_on.new.pass)
    (sight g.P.Port.left g.P.Port.written c.args.self.now) (sight g.P.Port.left g.P.Port.written c.put-next.new.self) c.put-next.new.self.seen h.taken r.asked c.now-now.result c.args.self.now.seen
    told.mark told.answer.status (body_text told.answer.body) r.spare.items r.head_only r.close c.put-next.result h.called
    (c.in-Done.ensures.goes (call_asked c.args.server.now.engine.site.users h.taken) r.asked h.asks) h.head_only h.closes h.spare (rw c.limit.ensures at c.put-next.ensures.puts)).0
