use Rattle.std.proofs.lemmas.Result.{on_ok_weaker}
use Rattle.mx_engine.proofs.MadeAgain.{made_again}
use Rattle.mx_engine.proofs.By.{receipts_tie}
use Rattle.mx_engine.proofs.held.Engine.replay_receipts.Goals as goal

pub returns-clause-ties : goal.returns-clause-ties
returns-clause-ties g c =
    receipts_tie c.args.self.now c.args.pass.now (record c.args.pass.now { receipts = c.replay_on.new.seat }) c.requires.ties c.replay_on.ensures.stream c.replay_on.ensures.begins

pub returns-clause-replayed : goal.returns-clause-replayed
returns-clause-replayed g c = on_ok_weaker c.replay_on.result (λ h. made_again g.met.G.Outside.decides_receipts h) c.replay_on.ensures.replayed
