use Rattle.std.proofs.Common.{◌≡◌, ap₂, subst, IfOk}
use Rattle.mx_event.specs.Lawful.{of_room}
use Rattle.mx_unread.specs.Unread.{counts_by, rules_at, says_of}
use Rattle.mx_unread.specs.declared.unread_counts.Counts.{Counts}
use Rattle.mx_unread.proofs.counting.counts_by.Goals as goal

pub returns-clause-counts : goal.returns-clause-counts
returns-clause-counts c =
    let room = c.args.room.now in
    let user = c.args.user.now in
    let says = says_of (rules_at user c.args.at.now.a c.args.snapshot.now.accounts) room user in
    subst (λ (n : Counts). IfOk c.window_counts-counted.result (λ m. m ≡ n))
    (ap₂ (λ f m. counts_by says user (of_room room c.args.snapshot.now.events) f m) c.in_ok-window.ensures.front c.in_ok-window.ensures.mark)
    c.window_counts-counted.ensures.counts
