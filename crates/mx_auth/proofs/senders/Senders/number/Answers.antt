use Rattle.std.proofs.Common.{ap, ◌∙◌}
use Rattle.mx_auth.specs.Placing.{SenderList}
use Rattle.mx_auth.proofs.Numbering.{named_seen}
use Rattle.mx_auth.proofs.senders.Senders.number.Goals as goal

pub returns-clause-named : goal.returns-clause-named
returns-clause-named c =
    named_seen c.args.self.now.names c.self.inside.names.items c.self.inside.numbers c.args.user.now c.copied.result (ap (λ (s : SenderList). s.names) c.self.view_is) c.self.invariant (c.copied.ensures ∙ c.get.ensures.value)
