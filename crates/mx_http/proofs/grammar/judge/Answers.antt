use Rattle.std.proofs.Common.{ap, Err}
use Rattle.mx_http.proofs.Heads.{no_excess, judges_none}
use Rattle.mx_http.proofs.grammar.judge.Goals as goal

pub judge_none-requires : goal.judge_none-requires
judge_none-requires c =
    c.in-Err.ensures.invalid (λ e. no_excess c.args.bytes.now _ c.requires.short c.requires.room (c.in-Err.ensures.too_many (ap Err e)))

pub returns-in-Err : goal.returns-in-Err
returns-in-Err c = judges_none c.args.bytes.now _ c.judge_none.result
    (c.in-Err.ensures.invalid (λ e. no_excess c.args.bytes.now _ c.requires.short c.requires.room (c.in-Err.ensures.too_many (ap Err e))))
    c.judge_none.ensures
