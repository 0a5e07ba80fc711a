use Rattle.std.proofs.Common.{◌∙◌, ℕ, List, Some, ap, ap₂, nat_cmp}
use Rattle.std.proofs.lemmas.Result.{IfOk-weaker}
use Rattle.std.specs.Cmp.Lexicographic.{slice_cmp}
use Rattle.mx_account.specs.Entries.{content_of, kind_of, position_of}
use Rattle.mx_account.specs.declared.entry.Entry.{Entry}
use Rattle.mx_fold.specs.Latest.{latest}
use Rattle.mx_snapshot.specs.Accounts.{of_user, standing_data}
use Rattle.mx_window.specs.Windows.{between}
use Rattle.mx_rest.specs.Accounts.{account_in}
use Rattle.mx_rest.proofs.Places.{data_after}
use Rattle.mx_rest.proofs.Standing.{data_standing}
use Rattle.mx_rest.proofs.accounts.entries_after.Goals as goal

pub returns-then-low-eq0 : goal.returns-then-low-eq0
returns-then-low-eq0 c =
    let user = c.args.user.now in
    let room = c.args.room.now in
    let es = c.args.accounts.now in
    IfOk-weaker c.standing.result _ _ (λ made is f. data_standing f user room c.args.low es c.if-low-eq0.true _ (is ∙ ap (λ u. standing_data u (Some room) es) c.as_str.ensures.text)) c.standing.ensures

pub returns-else-low-eq0 : goal.returns-else-low-eq0
returns-else-low-eq0 c =
    let user = c.args.user.now in
    let room = c.args.room.now in
    let es = c.args.accounts.now in
    IfOk-weaker c.of_user.result _ _ (λ made is f.
    ap (λ (l : List Entry). account_in f user room l) is
    ∙ ap₂ (λ (u : List ℕ) (n : ℕ). account_in f user room (between position_of c.args.low n (of_user u es))) c.as_str-else-low-eq0.ensures.text c.front-front.ensures.count
    ∙ ap (latest (slice_cmp nat_cmp) kind_of content_of) (data_after f user room c.args.low es c.front-front.ensures.placed c.requires)) c.of_user.ensures
