use Rattle.std.proofs.lemmas.Result.{err_from_is_err_and}
use Rattle.mx_words.proofs.Parsed.{parsed, read_error, read_fault, read_run}
use Rattle.mx_words.proofs.reading.read_words.Goals as goal

pub read_run-requires : goal.read_run-requires
read_run-requires c = (parsed c.in_ok-program.field-0 c.in-Ok.matches c.in-Ok.ensures.parsed c.in_ok-program.ensures _ c.in-Ok.ensures.kinds c.in-Ok.ensures.matches).numbers

pub returns-in_err-read_run-in-Ok-clause-read : goal.returns-in_err-read_run-in-Ok-clause-read
returns-in_err-read_run-in-Ok-clause-read c =
    let parse = parsed c.in_ok-program.field-0 c.in-Ok.matches c.in-Ok.ensures.parsed c.in_ok-program.ensures _ c.in-Ok.ensures.kinds c.in-Ok.ensures.matches in
    let failed = err_from_is_err_and c.from_residual-in_err-read_run-in-Ok.result c.from_residual-in_err-read_run-in-Ok.ensures.1 in
    rw (failed.1, failed.2) (read_fault _ _ c.in_err-read_run-in-Ok.field-0.0 parse c.in_err-read_run-in-Ok.ensures.run)

pub returns-in_ok-read_run-in-Ok-clause-read : goal.returns-in_ok-read_run-in-Ok-clause-read
returns-in_ok-read_run-in-Ok-clause-read c =
    let parse = parsed c.in_ok-program.field-0 c.in-Ok.matches c.in-Ok.ensures.parsed c.in_ok-program.ensures _ c.in-Ok.ensures.kinds c.in-Ok.ensures.matches in
    read_run _ _ c.in_ok-read_run-in-Ok.field-0 parse c.in_ok-read_run-in-Ok.ensures.run

pub returns-in-Err-clause-read : goal.returns-in-Err-clause-read
returns-in-Err-clause-read c = read_error _ _ c.in-Err.error c.asked_by.result c.in_ok-program.ensures c.in-Err.ensures.kinds c.asked_by.ensures
