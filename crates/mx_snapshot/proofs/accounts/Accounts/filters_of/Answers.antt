use Rattle.std.proofs.Common.{List, ap, ◌∙◌}
use Rattle.std.proofs.lemmas.Result.{IfOk-weaker}
use Rattle.mx_account.specs.Entries.{position_of}
use Rattle.mx_account.specs.declared.entry.Entry.{Entry}
use Rattle.mx_window.specs.Windows.{between}
use Rattle.mx_snapshot.specs.Accounts.{is_filter_of, filters_of}
use Rattle.mx_snapshot.proofs.Found.{test_rises, test_window}
use Rattle.mx_snapshot.proofs.accounts.Accounts.filters_of.Goals as goal

pub within-requires : goal.within-requires
within-requires c = test_rises position_of c.self.inside.entries.items (is_filter_of c.args.user.now) _ c.self.invariant.0 (c.key_positions-positions.ensures ∙ c.self.invariant.1.filters c.args.user.now)

pub returns : goal.returns
returns c =
    let es = c.self.inside.entries.items in
    IfOk-weaker c.gather.result _ _ (λ made h. test_window position_of es (is_filter_of c.args.user.now) c.key_positions-positions.result.now c.self.invariant.0 (c.key_positions-positions.ensures ∙ c.self.invariant.1.filters c.args.user.now) c.args.low c.args.high c.within.result.now _ c.within.ensures h
    ∙ ap (λ (l : List Entry). between position_of c.args.low c.args.high (filters_of c.args.user.now l)) c.self.view_is) c.gather.ensures
