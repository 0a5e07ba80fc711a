use Rattle.std.proofs.Common.{◌≡◌, sym, subst}
use Rattle.std.proofs.lemmas.Result.{on_ok_weaker}
use Rattle.mx_engine.specs.Again.{with_record}
use Rattle.mx_engine.specs.Shown.{stores_of}
use Rattle.mx_engine.proofs.held.Engine.replay_record.Goals as goal

pub returns-in-Events-clause-replayed : goal.returns-in-Events-clause-replayed
returns-in-Events-clause-replayed g c =
    let done = c.replay_events in
    on_ok_weaker done.result (λ e. subst (λ r. stores_of done.new.pass ≡ with_record r (stores_of c.args.pass.now)) (sym c.in-Events.is)
    (λ i. record { events = e i; receipts = done.ensures.others.0 i; accounts = done.ensures.others.1 i })) done.ensures.replayed

pub returns-in-Receipts-clause-replayed : goal.returns-in-Receipts-clause-replayed
returns-in-Receipts-clause-replayed g c =
    let done = c.replay_receipts in
    on_ok_weaker done.result (λ e. subst (λ r. stores_of done.new.pass ≡ with_record r (stores_of c.args.pass.now)) (sym c.in-Receipts.is)
    (λ i. record { receipts = e i; events = done.ensures.others.0 i; accounts = done.ensures.others.1 i })) done.ensures.replayed

pub returns-in-Accounts-clause-replayed : goal.returns-in-Accounts-clause-replayed
returns-in-Accounts-clause-replayed g c =
    let done = c.replay_accounts in
    on_ok_weaker done.result (λ e. subst (λ r. stores_of done.new.pass ≡ with_record r (stores_of c.args.pass.now)) (sym c.in-Accounts.is)
    (λ i. record { accounts = e i; events = done.ensures.others.0 i; receipts = done.ensures.others.1 i })) done.ensures.replayed
