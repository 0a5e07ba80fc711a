use Rattle.std.proofs.Common.{◌∙◌, sym}
use Rattle.mx_snapshot.specs.Looks.{all_now}
use Rattle.mx_rest.specs.Servers.{lists_of}
use Rattle.mx_rest.proofs.Quiet.{counts_apart, counts_quiet, counts_still}
use Rattle.mx_rest.proofs.counting.counts_since.Goals as goal

pub returns-then-is_uncounted-clause-now : goal.returns-then-is_uncounted-clause-now
returns-then-is_uncounted-clause-now c =
    let rest = c.args.rest.now in
    c.in_ok-before.ensures.counts
    ∙ counts_still rest.room.now rest.user.now (lists_of rest.snapshot.now)
    (record { events = c.front-events.ensures.placed; receipts = c.front-receipts.ensures.placed; accounts = c.front-entries.ensures.placed })
    c.args.since.now c.requires.behind (all_now c.args.receipts.now) c.requires.receipts (sym c.is_uncounted.ensures ∙ c.if-is_uncounted.true)

pub returns-then-is_uncounted-clause-differ : goal.returns-then-is_uncounted-clause-differ
returns-then-is_uncounted-clause-differ c =
    let rest = c.args.rest.now in
    counts_quiet rest.room.now rest.user.now (lists_of rest.snapshot.now)
    (record { events = c.front-events.ensures.placed; receipts = c.front-receipts.ensures.placed; accounts = c.front-entries.ensures.placed })
    c.args.since.now c.requires.behind (all_now c.args.receipts.now) c.requires.receipts (sym c.is_uncounted.ensures ∙ c.if-is_uncounted.true)

pub returns-in_ok-now-clause-differ : goal.returns-in_ok-now-clause-differ
returns-in_ok-now-clause-differ c =
    let rest = c.args.rest.now in
    counts_apart rest.room.now rest.user.now (lists_of rest.snapshot.now)
    (record { events = c.front-events.ensures.placed; receipts = c.front-receipts.ensures.placed; accounts = c.front-entries.ensures.placed })
    c.args.since.now c.requires.behind c.in_ok-before.before c.in_ok-now.now c.in_ok-before.ensures.counts c.in_ok-now.ensures.counts c.same_counts.result c.same_counts.ensures
