use Rattle.std.proofs.lemmas.Result.{IfOk-weaker}
use Rattle.mx_words.proofs.Added.{added}
use Rattle.mx_words.proofs.program.program.Goals as goal

pub returns : goal.returns
returns c =
    let until = added _ _ _ c.in_ok-arg.ensures c.flag_arg.ensures.local c.in_ok-with_bounds.ensures c.flag_arg.ensures.rule in
    IfOk-weaker c.arg-2.result _ _ (λ whole adds. added _ _ _ adds c.text_arg.ensures.local until c.text_arg.ensures.rule) c.arg-2.ensures
