use Rattle.mx_ids.proofs.Page.{page_form}
use Rattle.mx_ids.proofs.Tokens.{outcome, found_by, back_by, shape_by, too_large_by, order_by}
use Rattle.mx_ids.proofs.page_token.read_page_token.Goals as goal

pub returns-clause-found : goal.returns-clause-found
returns-clause-found c = found_by page_form _ _ (outcome page_form c.args.text.now c.judge.result (rw c.as_bytes.ensures.value at c.judge.ensures))

pub returns-clause-back : goal.returns-clause-back
returns-clause-back c = back_by page_form _ _ (outcome page_form c.args.text.now c.judge.result (rw c.as_bytes.ensures.value at c.judge.ensures))

pub returns-clause-shape : goal.returns-clause-shape
returns-clause-shape c = shape_by page_form _ _ (outcome page_form c.args.text.now c.judge.result (rw c.as_bytes.ensures.value at c.judge.ensures))

pub returns-clause-too_large : goal.returns-clause-too_large
returns-clause-too_large c = too_large_by page_form _ _ (outcome page_form c.args.text.now c.judge.result (rw c.as_bytes.ensures.value at c.judge.ensures))

pub returns-clause-order : goal.returns-clause-order
returns-clause-order c = order_by page_form _ _ (outcome page_form c.args.text.now c.judge.result (rw c.as_bytes.ensures.value at c.judge.ensures))
