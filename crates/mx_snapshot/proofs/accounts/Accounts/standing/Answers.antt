use Rattle.std.proofs.Common.{ap, ◌∙◌}
use Rattle.std.proofs.lemmas.Result.{IfOk-weaker}
use Rattle.std.specs.Option.{option_copied}
use Rattle.mx_snapshot.specs.Accounts.{standing_data}
use Rattle.mx_snapshot.specs.Looks.{all_now, looked}
use Rattle.mx_snapshot.proofs.Current.{data_stands, none_stands}
use Rattle.mx_snapshot.proofs.accounts.Accounts.standing.Goals as goal

pub returns-in_ok-positions-in-Some : goal.returns-in_ok-positions-in-Some
returns-in_ok-positions-in-Some c =
    let es = c.self.inside.entries.items in
    let user = c.args.user.now in
    let room = option_copied c.args.room in
    IfOk-weaker c.gather.result _ _ (λ made h. h ∙ ap (looked es) c.as_slice.ensures.value
    ∙ data_stands es user room c.self.invariant.0 c.in-Some.types.now.entries (λ kind. c.in-Some.ensures es c.self.invariant.1 kind)
    _ c.in_ok-positions-in-Some.ensures.ordered c.in_ok-positions-in-Some.ensures.found c.in_ok-positions-in-Some.ensures.rising
    ∙ ap (standing_data user room) c.self.view_is) c.gather.ensures

pub returns-in-None : goal.returns-in-None
returns-in-None c =
    let es = c.self.inside.entries.items in
    let user = c.args.user.now in
    let room = option_copied c.args.room in
    ap all_now c.new.ensures.items
    ∙ none_stands es user room c.self.invariant.0 (λ kind. c.in-None.ensures es c.self.invariant.1 kind)
    ∙ ap (standing_data user room) c.self.view_is
