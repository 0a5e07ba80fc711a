use Rattle.std.proofs.Common.{subst, sym}
use Rattle.mx_fold.specs.Lists.{lists_of}
use Rattle.mx_poll.specs.OfEngine.Counts.{Counts}
use Rattle.mx_poll.specs.OfEngine.Exchanges.{first_of}
use Rattle.mx_poll.specs.OfEngine.Shown.{site_of, stops_of, stores_of}
use Rattle.mx_loop.specs.Stands.{ReadTo, Stands, sight}
use Rattle.mx_loop.specs.declared.line.State.{State}
use Rattle.mx_loop.proofs.Waiting.{reading_polled, reading_waited}
use Rattle.mx_loop.proofs.line.Line.move_on.Goals as goal

pub returns-in-Head-clause-stands : goal.returns-in-Head-clause-stands
returns-in-Head-clause-stands g c = λ start h.
    let site = site_of c.args.server.now.engine in
    let stops = stops_of c.args.server.now.engine in
    let limit = c.args.server.now.limit in
    let s = sight g.P.Port.left g.P.Port.written c.args.self.now in
    let lists = first_of (stores_of c.args.pass.now) c.args.self.now.seen in
    c.after_read.ensures.stands start
    (subst (λ (k : Counts). ReadTo site stops limit start (first_of (stores_of c.args.pass.now) k) (sight g.P.Port.left g.P.Port.written c.read_head-read.new.self) c.read_head-read.result) (sym c.read_head-read.ensures.seen)
    (c.read_head-read.ensures.reads site stops limit start lists (subst (λ (t : State). Stands site stops limit start lists s t) c.in-Head.is h)))

pub returns-in-Body-clause-stands : goal.returns-in-Body-clause-stands
returns-in-Body-clause-stands g c = λ start h.
    let site = site_of c.args.server.now.engine in
    let stops = stops_of c.args.server.now.engine in
    let limit = c.args.server.now.limit in
    let s = sight g.P.Port.left g.P.Port.written c.args.self.now in
    let lists = first_of (stores_of c.args.pass.now) c.args.self.now.seen in
    c.after_read-in-Body.ensures.stands start
    (subst (λ (k : Counts). ReadTo site stops limit start (first_of (stores_of c.args.pass.now) k) (sight g.P.Port.left g.P.Port.written c.read_body-read.new.self) c.read_body-read.result) (sym c.read_body-read.ensures.seen)
    (c.read_body-read.ensures.reads site stops limit start lists (subst (λ (t : State). Stands site stops limit start lists s t) c.in-Body.is h)))

pub returns-in-Writes-clause-stands : goal.returns-in-Writes-clause-stands
returns-in-Writes-clause-stands g c = λ start h.
    let site = site_of c.args.server.now.engine in
    let stops = stops_of c.args.server.now.engine in
    let limit = c.args.server.now.limit in
    let s = sight g.P.Port.left g.P.Port.written c.args.self.now in
    let lists = first_of (stores_of c.args.pass.now) c.args.self.now.seen in
    subst (λ (k : Counts). Stands site stops limit start (first_of (stores_of c.args.pass.now) k) (sight g.P.Port.left g.P.Port.written c.write.new.self) c.write.result.0) (sym c.write.ensures.seen)
    (c.write.ensures.stands site stops limit start lists (subst (λ (t : State). Stands site stops limit start lists s t) c.in-Writes.is h))

pub returns-in-Writes-clause-polled : goal.returns-in-Writes-clause-polled
returns-in-Writes-clause-polled g c = reading_polled (lists_of (stores_of c.args.pass.now)) c.write.new.self.marks c.write.result.0 c.write.result.1 c.write.ensures.writes

pub returns-in-Writes-clause-waited : goal.returns-in-Writes-clause-waited
returns-in-Writes-clause-waited g c = reading_waited (g.C.Clock.last c.args.clock.now) c.args.pass.now c.args.pass.now c.write.result.0 c.write.result.1 c.write.ensures.writes
