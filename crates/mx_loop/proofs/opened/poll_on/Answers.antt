use Rattle.std.proofs.Common.{subst, sym}
use Rattle.mx_http.specs.Answers.{body_text}
use Rattle.mx_ids.specs.declared.users.Users.{Users}
use Rattle.mx_poll.specs.OfEngine.Shown.{site_of, stops_of, stores_of}
use Rattle.mx_poll.specs.Polls.{IsDue}
use Rattle.mx_serve.specs.Steps.{Renders}
use Rattle.mx_loop.proofs.Opening.{rest_kept, rest_responds, told_within}
use Rattle.mx_loop.proofs.opened.poll_on.Goals as goal

pub returns-in-Done-clause-goes : goal.returns-in-Done-clause-goes
returns-in-Done-clause-goes g c = λ asks first rest.
    let a = c.in-Done.answered in
    let m = c.rendered_for.result.mark in
    let status = c.rendered_for.result.answer.status in
    let text = body_text c.rendered_for.result.answer.body in
    let d = rw c.engine.ensures at c.in-Done.ensures.polled in
    rest_responds (site_of c.args.server.now.engine) (stops_of c.args.server.now.engine) asks first c.poll.new.poll c.args.device
    (rest_kept asks first c.args.waiting.now c.poll.new.poll c.args.device c.poll.ensures.same rest) (stores_of c.args.pass.now) (stores_of c.poll.new.pass) a d.0.done c.args.now c.args.seen m status text (sym d.0.now_is)
    (subst (λ n. IsDue c.poll.new.poll n a.said) (sym d.0.now_is) d.1)
    (subst (λ (u : Users). Renders u.server c.args.device a m status text) (rw c.engine-in-Done.ensures at c.users.ensures) c.rendered_for.ensures)

pub returns-in-Done-clause-went : goal.returns-in-Done-clause-went
returns-in-Done-clause-went g c =
    let d = rw c.engine.ensures at c.in-Done.ensures.polled in (
      d.0.done.begins,
      told_within c.users.result.now.server c.args.device c.in-Done.answered c.rendered_for.result.mark c.rendered_for.result.answer.status (body_text c.rendered_for.result.answer.body) (stores_of c.poll.new.pass)
          d.0.done.seen c.rendered_for.ensures,
    )
