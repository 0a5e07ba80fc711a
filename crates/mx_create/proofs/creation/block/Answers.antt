use Rattle.std.proofs.Common.{◌<◌, ◌≤◌, inr, sym, subst, ◌∙◌}
use Rattle.mx_core.specs.Limits.{most_drawn}
use Rattle.mx_create.specs.Blocks.{Creating}
use Rattle.mx_create.proofs.Admitting.{is_block}
use Rattle.mx_create.proofs.Tests.{block_test}
use Rattle.mx_create.proofs.Outcomes.{found, no_preset, no_user, no_version, too_many}
use Rattle.mx_create.proofs.creation.block.Goals as goal

pub returns-then-not-is_eleven-clause-refused : goal.returns-then-not-is_eleven-clause-refused
returns-then-not-is_eleven-clause-refused c =
    let by : Creating = record { creator = c.args.creator.now; ts = c.args.ts } in
    inr (no_version by c.args.users.now c.args.ask.now (sym c.is_eleven.ensures ∙ c.if-not-is_eleven.true))

pub returns-in_default-clause-refused : goal.returns-in_default-clause-refused
returns-in_default-clause-refused c =
    let by : Creating = record { creator = c.args.creator.now; ts = c.args.ts } in
    inr (no_preset by c.args.users.now c.args.ask.now c.asked.result (sym c.is_eleven.ensures ∙ c.if-not-is_eleven.false) c.asked.ensures c.in_default.not-Some)

pub returns-then-not-branch-clause-refused : goal.returns-then-not-branch-clause-refused
returns-then-not-branch-clause-refused c =
    let by : Creating = record { creator = c.args.creator.now; ts = c.args.ts } in
    inr (no_user by c.args.users.now c.args.ask.now c.in-Some.preset (sym c.is_eleven.ensures ∙ c.if-not-is_eleven.false) (sym c.in-Some.ensures) (sym c.in_ok-are_known.ensures ∙ c.if-not-branch.true))

pub returns-then-event_count-gt-MOST_EVENTS-clause-refused : goal.returns-then-event_count-gt-MOST_EVENTS-clause-refused
returns-then-event_count-gt-MOST_EVENTS-clause-refused c =
    let by : Creating = record { creator = c.args.creator.now; ts = c.args.ts } in
    let count = c.event_count.ensures by c.in-Some.preset in
    inr (too_many by c.args.users.now c.args.ask.now c.in-Some.preset (sym c.is_eleven.ensures ∙ c.if-not-is_eleven.false) (sym c.in-Some.ensures) (sym c.in_ok-are_known.ensures ∙ c.if-not-branch.false) (subst (λ n. most_drawn < n) count c.if-event_count-gt-MOST_EVENTS.true))

pub returns-clause-found : goal.returns-clause-found
returns-clause-found c =
    let by : Creating = record { creator = c.args.creator.now; ts = c.args.ts } in
    let count = c.event_count.ensures by c.in-Some.preset in
    found by c.args.users.now c.args.ask.now c.in-Some.preset _ (sym c.is_eleven.ensures ∙ c.if-not-is_eleven.false) (sym c.in-Some.ensures) (sym c.in_ok-are_known.ensures ∙ c.if-not-branch.false) (subst (λ n. n ≤ most_drawn) count c.if-event_count-gt-MOST_EVENTS.false) c.in_ok-drafts.ensures

pub returns-clause-block : goal.returns-clause-block
returns-clause-block c =
    let by : Creating = record { creator = c.args.creator.now; ts = c.args.ts } in
    let count = c.event_count.ensures by c.in-Some.preset in
    is_block by c.in-Some.preset c.args.ask.now _ c.in_ok-drafts.ensures (subst (λ n. n ≤ most_drawn) count c.if-event_count-gt-MOST_EVENTS.false)

pub returns-clause-test : goal.returns-clause-test
returns-clause-test c =
    let by : Creating = record { creator = c.args.creator.now; ts = c.args.ts } in
    let count = c.event_count.ensures by c.in-Some.preset in
    block_test _ (is_block by c.in-Some.preset c.args.ask.now _ c.in_ok-drafts.ensures (subst (λ n. n ≤ most_drawn) count c.if-event_count-gt-MOST_EVENTS.false))
