use Rattle.std.proofs.Common.{ap, ◌∙◌}
use Rattle.mx_account.specs.Entries.{position_of}
use Rattle.mx_snapshot.specs.Accounts.{is_users}
use Rattle.mx_snapshot.specs.Looks.{last_position}
use Rattle.mx_snapshot.proofs.Found.{test_top}
use Rattle.mx_snapshot.proofs.accounts.Accounts.last_in.Goals as goal

pub returns : goal.returns
returns c =
    test_top position_of c.self.inside.entries.items (is_users c.args.user.now) _ c.self.invariant.0 (c.key_positions.ensures ∙ c.self.invariant.1.users c.args.user.now) _ c.last_one.ensures
    ∙ ap (last_position position_of (is_users c.args.user.now)) c.self.view_is
