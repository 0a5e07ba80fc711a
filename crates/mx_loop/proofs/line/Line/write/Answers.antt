use Rattle.std.proofs.Common.{◌++◌, List, ℕ, take, refl, sym, ap, ◌∙◌, subst, take-append-drop}
use Rattle.std.specs.Io.KnownBytes.{Appends}
use Rattle.mx_loop.specs.Stands.{sight}
use Rattle.mx_loop.specs.declared.line.State.TheVariants as state
use Rattle.mx_loop.proofs.Standing.{fails, puts, same_stands}
use Rattle.mx_loop.proofs.line.Line.write.Goals as goal

pub returns-in-Put-clause-stands : goal.returns-in-Put-clause-stands
returns-in-Put-clause-stands g c = λ site stops limit start lists h.
    let out = c.args.self.now.out in
    let t = sight g.P.Port.left g.P.Port.written (record { port = c.put_now.new.self; intake = c.args.self.now.intake; out = c.advance.new.self; marks = c.args.self.now.marks; seen = c.args.self.now.seen }) in
    let sent : Appends (g.P.Port.written c.args.self.now.port) (g.P.Port.written c.put_now.new.self) (take c.in-Put.count out) =
    subst (λ (l : List ℕ). Appends (g.P.Port.written c.args.self.now.port) (g.P.Port.written c.put_now.new.self) (take c.in-Put.count l)) c.as_slice-2.ensures c.in-Put.ensures.bytes.2 in
    puts site stops limit start lists (sight g.P.Port.left g.P.Port.written c.args.self.now) t c.args.next (take c.in-Put.count out) refl refl c.put_now.ensures.left sent
    (sym (take-append-drop c.in-Put.count out) ∙ ap (λ l. take c.in-Put.count out ++ l) (sym c.advance.ensures)) h

pub returns-in-Failed-clause-stands : goal.returns-in-Failed-clause-stands
returns-in-Failed-clause-stands g c = λ site stops limit start lists h.
    fails site stops limit start lists (sight g.P.Port.left g.P.Port.written c.args.self.now) (sight g.P.Port.left g.P.Port.written (record c.args.self.now { port = c.put_now.new.self })) c.args.next refl c.in-Failed.ensures.bytes c.put_now.ensures.left h

pub returns-in-NotYet-clause-stands : goal.returns-in-NotYet-clause-stands
returns-in-NotYet-clause-stands g c = λ site stops limit start lists h.
    same_stands site stops limit start lists (sight g.P.Port.left g.P.Port.written c.args.self.now) (sight g.P.Port.left g.P.Port.written (record c.args.self.now { port = c.put_now.new.self })) (state.Writes c.args.next)
    refl c.in-NotYet.ensures.bytes refl c.put_now.ensures.left refl h
