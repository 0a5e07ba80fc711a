use Rattle.std.proofs.Common.{subst, sym}
use Rattle.mx_http.specs.Answers.{body_text}
use Rattle.mx_http.specs.declared.answer.Answer.{Answer}
use Rattle.mx_ids.specs.declared.users.Users.{Users}
use Rattle.mx_poll.specs.OfEngine.Shown.{site_of, stops_of, stores_of}
use Rattle.mx_poll.proofs.Waited.{at_once_answered, at_once_waited}
use Rattle.mx_serve.specs.Asked.{call_asked}
use Rattle.mx_serve.specs.Opens.{idle_mark}
use Rattle.mx_serve.specs.Steps.{Renders, Responds}
use Rattle.mx_serve.specs.Tallies.{WaitsFor}
use Rattle.mx_loop.specs.Seen.{RespondsSeen}
use Rattle.mx_loop.proofs.Opening.{opened_seen, told_responds}
use Rattle.mx_loop.proofs.opened.begin_call.Goals as goal

pub returns-in-Answered-clause-begins : goal.returns-in-Answered-clause-begins
returns-in-Answered-clause-begins g c =
    let site = site_of c.args.server.now.engine in
    let asks = call_asked c.args.server.now.engine.site.users c.args.call.now in
    opened_seen site (stops_of c.args.server.now.engine) asks c.in-Answered.memory c.args.now c.args.seen (stores_of c.args.pass.now) c.idle.result.mark c.idle.result.answer.status (body_text c.idle.result.answer.body)
    c.requires.seen c.idle.ensures.mark
    (λ n lists. subst (λ (a : Answer). Responds site (stops_of c.args.server.now.engine) asks n lists lists (idle_mark c.in-Answered.memory n lists) a.status (body_text a.body) × WaitsFor site lists (idle_mark c.in-Answered.memory n lists) asks n)
    (sym c.idle.ensures.answer) (c.in-Answered.ensures n lists))

pub returns-in-Done-clause-begins : goal.returns-in-Done-clause-begins
returns-in-Done-clause-begins g c =
    let site = site_of c.args.server.now.engine in
    let stops = stops_of c.args.server.now.engine in
    let who = c.in-Asked.field-0.who in
    let ask = c.in-Asked.field-0.ask in
    let a = c.in-Done.answered in
    let h = rw c.engine.ensures at c.in-Done.ensures in
    let m = c.rendered_for.result.mark in
    let status = c.rendered_for.result.answer.status in
    let text = body_text c.rendered_for.result.answer.body in
    subst (λ asks. RespondsSeen site stops asks c.args.now c.args.now c.args.seen (stores_of c.args.pass.now) (stores_of c.begin.new.pass) m status text) (sym c.in-Asked.ensures.0)
    (told_responds site stops who ask c.args.now (stores_of c.args.pass.now) (stores_of c.begin.new.pass) a
    (at_once_answered c.args.server.now.engine who ask c.args.now c.args.pass.now c.begin.new.pass a h) (at_once_waited c.args.server.now.engine who ask c.args.now c.args.pass.now c.begin.new.pass a h)
    c.args.now c.args.seen m status text (sym h.now_is) (subst (λ (u : Users). Renders u.server who.device a m status text) (rw c.engine-in-Done.ensures at c.users.ensures) c.rendered_for.ensures))
