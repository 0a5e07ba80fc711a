use Rattle.std.proofs.Common.{[], ◌++◌, ap, sym, append-nil, if◌then◌else◌, ℕ}
use Rattle.std.proofs.lemmas.Result.{err_from_is_err_and}
use Rattle.mx_http.specs.Stages.{state_of}
use Rattle.mx_http.specs.Answers.{response_bytes, head_bytes, body_text}
use Rattle.mx_http.proofs.Stages.{stops_early, leaves_all, leaves_less, leaves_stop, leaves_last}
use Rattle.mx_http.proofs.answer.put_answer.Goals as goal

pub returns-in_err-put_head-clause-bytes : goal.returns-in_err-put_head-clause-bytes
unfolding response_bytes
returns-in_err-put_head-clause-bytes g c =
    let failed = err_from_is_err_and c.from_residual.result c.from_residual.ensures.1 in
    let rest = if c.args.head_only then [] else body_text c.args.answer.now.body in
    rw failed.1 (stops_early _ _ _ rest _ c.in_err-put_head.ensures (ap (λ (n : ℕ). head_bytes c.args.answer.now.status n c.args.close ++ rest) c.size.ensures))

pub returns-in_err-put_body-clause-bytes : goal.returns-in_err-put_body-clause-bytes
unfolding response_bytes
returns-in_err-put_body-clause-bytes g c =
    let failed = err_from_is_err_and c.from_residual-in_err-put_body.result c.from_residual-in_err-put_body.ensures.1 in
    let rest = if c.args.head_only then [] else body_text c.args.answer.now.body in
    let head = leaves_less _ _ _ _ _ rest _ (leaves_all _ _) c.in_ok-put_head.ensures (sym (ap (λ (n : ℕ). head_bytes c.args.answer.now.status n c.args.close ++ rest) c.size.ensures)) in
    rw failed.1 (leaves_stop _ _ _ _ _ [] _ head c.in_err-put_body.ensures (sym (append-nil rest)))

pub returns-clause-bytes : goal.returns-clause-bytes
unfolding response_bytes
returns-clause-bytes g c =
    let rest = if c.args.head_only then [] else body_text c.args.answer.now.body in
    let head = leaves_less _ _ _ _ _ rest _ (leaves_all _ _) c.in_ok-put_head.ensures (sym (ap (λ (n : ℕ). head_bytes c.args.answer.now.status n c.args.close ++ rest) c.size.ensures)) in
    let body = leaves_less _ _ _ _ _ [] _ head c.in_ok-put_body.ensures (sym (append-nil rest)) in
    leaves_last _ _ c.flush.result (state_of g.K.Sink.written g.K.Sink.faults c.flush.new.sink c.flush.new.stage) _ _ body c.flush.ensures.bytes
