use Rattle.mx_ids.proofs.Sync.{sync_form}
use Rattle.mx_ids.proofs.Tokens.{outcome, found_by, back_by, shape_by, too_large_by, order_by}
use Rattle.mx_ids.proofs.sync_token.read_sync_token.Goals as goal

pub returns-clause-found : goal.returns-clause-found
returns-clause-found c = found_by sync_form _ _ (outcome sync_form c.args.text.now c.judge.result (rw c.as_bytes.ensures.value at c.judge.ensures))

pub returns-clause-back : goal.returns-clause-back
returns-clause-back c = back_by sync_form _ _ (outcome sync_form c.args.text.now c.judge.result (rw c.as_bytes.ensures.value at c.judge.ensures))

pub returns-clause-shape : goal.returns-clause-shape
returns-clause-shape c = shape_by sync_form _ _ (outcome sync_form c.args.text.now c.judge.result (rw c.as_bytes.ensures.value at c.judge.ensures))

pub returns-clause-too_large : goal.returns-clause-too_large
returns-clause-too_large c = too_large_by sync_form _ _ (outcome sync_form c.args.text.now c.judge.result (rw c.as_bytes.ensures.value at c.judge.ensures))

pub returns-clause-order : goal.returns-clause-order
returns-clause-order c = order_by sync_form _ _ (outcome sync_form c.args.text.now c.judge.result (rw c.as_bytes.ensures.value at c.judge.ensures))
