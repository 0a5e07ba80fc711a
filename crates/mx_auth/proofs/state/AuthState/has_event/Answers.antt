use Rattle.std.proofs.Common.{ap, ◌==◌, ◌∙◌}
use Rattle.mx_auth.specs.Kept.{has_event}
use Rattle.mx_auth.specs.Standing.{Standing}
use Rattle.mx_auth.proofs.state.AuthState.has_event.Goals as goal

pub returns : goal.returns
returns c =
    c.has.ensures ∙ c.self.invariant.0.placed (λ p sender. c.args.at == p) ∙ ap (λ (s : Standing). has_event c.args.at s.events) c.self.view_is
