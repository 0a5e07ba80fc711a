use Rattle.std.proofs.Common.{ap, ◌==◌, ◌&&◌, ◌∙◌}
use Rattle.std.specs.Str.{bytes_eq}
use Rattle.mx_auth.specs.Kept.{has_sent}
use Rattle.mx_auth.specs.Placing.{any_place}
use Rattle.mx_auth.specs.Standing.{Standing}
use Rattle.mx_auth.proofs.state.AuthState.has_sent.Goals as goal

pub returns : goal.returns
returns c =
    let at = c.args.at in
    let user = c.args.user.now in
    c.has_by.ensures ∙ ap (λ who. any_place (λ p sender. (at == p) && bytes_eq sender who) c.self.inside.kept.places.items) c.as_str.ensures.text
    ∙ c.self.invariant.0.placed (λ p sender. (at == p) && bytes_eq sender user) ∙ ap (λ (s : Standing). has_sent user at s.events) c.self.view_is
