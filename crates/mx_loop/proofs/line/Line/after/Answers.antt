use Rattle.std.proofs.Common.{subst}
use Rattle.mx_serve.specs.declared.ended.End.TheVariants as end
use Rattle.mx_loop.specs.Stands.{Then, sight}
use Rattle.mx_loop.proofs.Standing.{all_put}
use Rattle.mx_loop.proofs.line.Line.after.Goals as goal

pub returns-in-Fills-clause-stands : goal.returns-in-Fills-clause-stands
returns-in-Fills-clause-stands g c = λ site stops limit start lists h.
    all_put site stops limit start lists c.args.self.now.marks.items (g.P.Port.left c.args.self.now.port) (g.P.Port.written c.args.self.now.port) c.args.self.now.out end.Full c.requires.empty
    (subst (λ n. Then site stops limit start lists (sight g.P.Port.left g.P.Port.written c.args.self.now) h.0 n) c.in-Fills.is h.2).0
