use Rattle.std.proofs.Common.{◌≡◌, ℕ, ◌+◌, ◌==◌, ◌||◌, List, length, bytes_eq, codes, ap, refl, sym, subst, ◌∙◌}
use Rattle.mx_http.specs.Answers.{body_text, response_bytes}
use Rattle.mx_render.specs.Rendered.{no_memory_text}
use Rattle.mx_poll.specs.OfEngine.Counts.{Counts}
use Rattle.mx_poll.specs.OfEngine.Exchanges.{first_of}
use Rattle.mx_poll.specs.OfEngine.Shown.{site_of, stops_of, stores_of}
use Rattle.mx_serve.specs.declared.ended.End.TheVariants as end
use Rattle.mx_loop.specs.Stands.{Called, EndedBy, Sight, sight}
use Rattle.mx_loop.proofs.Replying.{put_up}
use Rattle.mx_loop.proofs.Standing.{short}
use Rattle.mx_loop.proofs.line.Line.answer.Goals as goal

pub returns-in-Err-clause-stands : goal.returns-in-Err-clause-stands
returns-in-Err-clause-stands g c = λ start h.
    let site = site_of c.args.server.now.engine in
    let stops = stops_of c.args.server.now.engine in
    let limit = c.args.server.now.limit in
    let same = c.make_room.ensures.same in
    let seen = c.make_room.ensures.seen in
    subst (λ (p : Sight × Counts). EndedBy site stops limit start (first_of (stores_of c.args.pass.now) p.1) p.0.marks p.0.left p.0.written (end.Memory c.in-Err.refused)) (λ i. (sym same i, sym seen i))
    (short site stops limit start (first_of (stores_of c.args.pass.now) c.args.self.now.seen) (sight g.P.Port.left g.P.Port.written c.args.self.now) c.args.call.now c.in-Err.refused h)

pub returns-in-Done-clause-stands : goal.returns-in-Done-clause-stands
returns-in-Done-clause-stands g c = λ start h.
    let site = site_of c.args.server.now.engine in
    let stops = stops_of c.args.server.now.engine in
    let limit = c.args.server.now.limit in
    let same = c.make_room.ensures.same in
    let seen = c.make_room.ensures.seen in
    let told = c.in-Done.told in
    let head = c.eq-head_only.result in
    let call = c.args.call.now in
    let s = sight g.P.Port.left g.P.Port.written c.make_room.new.self in
    let called : Called site stops limit start (first_of (stores_of c.args.pass.now) c.make_room.new.self.seen) s call =
    subst (λ (p : Sight × Counts). Called site stops limit start (first_of (stores_of c.args.pass.now) p.1) p.0 call) (λ i. (sym same i, sym seen i)) h in
    let spare : c.in-Ok.spare.items ≡ response_bytes 503 no_memory_text head (call.close || (length s.marks + 1) == limit) =
    (rw c.limit.ensures at c.in-Ok.ensures.spare) ∙ (λ i. response_bytes 503 no_memory_text head (call.close || (length (sym same i).marks + 1) == limit)) in
    (put_up site stops limit start (stores_of c.args.pass.now) (stores_of c.begin_call.new.pass) s (sight g.P.Port.left g.P.Port.written c.put-next.new.self) c.put-next.new.self.seen call c.now-now.result c.now-now.result
    c.make_room.new.self.seen told.mark told.answer.status (body_text told.answer.body) c.in-Ok.spare.items head call.close c.put-next.result called c.in-Done.ensures.begins
    (c.eq-head_only.ensures ∙ ap (λ (l : List ℕ). bytes_eq l (codes "HEAD")) c.as_str.ensures) refl spare (rw c.limit-in-Done.ensures at c.put-next.ensures.puts)).0
