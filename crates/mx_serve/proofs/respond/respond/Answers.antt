use Rattle.std.proofs.Common.{◌≡◌, ap, true, ◌∙◌}
use Rattle.mx_http.specs.Answers.{body_text}
use Rattle.mx_http.specs.declared.answer.Answer.{Answer}
use Rattle.mx_poll.specs.OfEngine.Shown.{stores_of, site_of, stops_of}
use Rattle.mx_poll.proofs.Watching.{watched_none}
use Rattle.mx_serve.specs.Asked.{call_asked}
use Rattle.mx_serve.specs.Tallies.{tally}
use Rattle.mx_serve.proofs.Responding.{wanting_responds}
use Rattle.mx_serve.proofs.Tallying.{wanting_tallied}
use Rattle.mx_serve.proofs.respond.respond.Goals as goal

pub returns-in-Err-clause-responds : goal.returns-in-Err-clause-responds
returns-in-Err-clause-responds g c =
    wanting_responds (site_of c.args.server.now.engine) (stops_of c.args.server.now.engine) (call_asked c.args.server.now.engine.site.users c.args.call.now) (g.C.Clock.last c.args.clock.now) c.args.now
    (stores_of c.args.pass.now) c.idle.result.mark c.idle.result.answer.status (body_text c.idle.result.answer.body) c.requires.last c.idle.ensures.mark
    (ap (λ (a : Answer). a.status) c.idle.ensures.answer ∙ c.no_memory.ensures.status) (ap (λ (a : Answer). body_text a.body) c.idle.ensures.answer ∙ c.no_memory.ensures.body)

pub returns-in-Err-clause-tallies : goal.returns-in-Err-clause-tallies
returns-in-Err-clause-tallies g c =
    wanting_tallied (c.idle.result.gone ≡ true) (site_of c.args.server.now.engine) (stores_of c.args.pass.now) (call_asked c.args.server.now.engine.site.users c.args.call.now) c.args.now
    (tally c.args.pass.now (g.C.Clock.readings c.args.clock.now)) c.idle.result.mark c.idle.ensures.mark

pub returns-in-Err-clause-output : goal.returns-in-Err-clause-output
returns-in-Err-clause-output g c = watched_none c.idle.result.gone (g.K.Sink.written c.args.output.now) (g.K.Sink.faults c.args.output.now) c.idle.ensures.stays
