use Rattle.std.proofs.Common.{List, Some, None, ap, ◌∙◌}
use Rattle.std.specs.Option.{option_copied}
use Rattle.mx_account.specs.Entries.{is_data_of, position_of}
use Rattle.mx_account.specs.declared.entry.Entry.{Entry}
use Rattle.mx_window.specs.Lasts.{last_of}
use Rattle.mx_window.specs.Windows.{between}
use Rattle.mx_snapshot.proofs.Found.{test_rises, last_between}
use Rattle.mx_snapshot.proofs.accounts.Accounts.last_global.Goals as goal

pub last_to-requires : goal.last_to-requires
last_to-requires c = test_rises position_of c.self.inside.entries.items (is_data_of c.args.user.now None c.args.kind.now) _ c.self.invariant.0 (c.kind_positions-positions.ensures ∙ c.self.invariant.1.global c.args.user.now c.args.kind.now)

pub returns-in_err-position : goal.returns-in_err-position
returns-in_err-position c =
    ap option_copied c.from_residual.ensures
    ∙ last_between position_of c.self.inside.entries.items (is_data_of c.args.user.now None c.args.kind.now) c.kind_positions-positions.result.now c.self.invariant.0 (c.kind_positions-positions.ensures ∙ c.self.invariant.1.global c.args.user.now c.args.kind.now) c.args.last None c.in_err-position.ensures.found
    ∙ ap (λ (l : List Entry). last_of (is_data_of c.args.user.now None c.args.kind.now) (between position_of 0 c.args.last l)) c.self.view_is

pub returns : goal.returns
returns c =
    c.at.ensures.item
    ∙ last_between position_of c.self.inside.entries.items (is_data_of c.args.user.now None c.args.kind.now) c.kind_positions-positions.result.now c.self.invariant.0 (c.kind_positions-positions.ensures ∙ c.self.invariant.1.global c.args.user.now c.args.kind.now) c.args.last (Some c.in_ok-position.position) c.in_ok-position.ensures.found
    ∙ ap (λ (l : List Entry). last_of (is_data_of c.args.user.now None c.args.kind.now) (between position_of 0 c.args.last l)) c.self.view_is
