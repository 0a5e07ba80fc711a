use Rattle.std.proofs.Common.{[], refl, sym, ap, ◌∙◌, append-nil, arith}
use Rattle.std.proofs.lemmas.Result.{err_from_is_err_and}
use Rattle.mx_front.specs.Shown.{known}
use Rattle.mx_writers.specs.Writes.{stores_by}
use Rattle.mx_writers.proofs.Noted.{beside_same, beside_stored}
use Rattle.mx_writers.proofs.writing.store_block.Goals as goal

pub returns-in_err-reserve-clause-seen : goal.returns-in_err-reserve-clause-seen
returns-in_err-reserve-clause-seen g c = ([], c.reserve.ensures.kept.seen ∙ sym (append-nil (known c.args.shard.now.pen).seen))

pub returns-in_err-reserve-clause-pass : goal.returns-in_err-reserve-clause-pass
returns-in_err-reserve-clause-pass g c =
    let failed = err_from_is_err_and c.from_residual.result c.from_residual.ensures.1 in
    beside_same _ _ _ refl (ap stores_by failed.1)

pub returns-in-Err-commit-clause-seen : goal.returns-in-Err-commit-clause-seen
returns-in-Err-commit-clause-seen g c =
    ([], ap (λ v. v.seen) c.in-Ok.ensures.drawn.view ∙ (c.in_ok-reserve.ensures.kept.seen ∙ sym (append-nil (known c.args.shard.now.pen).seen)))

pub returns-clause-pass : goal.returns-clause-pass
returns-clause-pass g c = beside_stored _ _ _ _ _ (omega (arith, c.len-count.ensures, c.requires.lawful.some_items)) c.finish-front.ensures.seen
