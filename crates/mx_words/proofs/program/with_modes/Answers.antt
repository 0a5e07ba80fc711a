use Rattle.std.proofs.lemmas.Result.{IfOk-weaker}
use Rattle.mx_words.proofs.Added.{added}
use Rattle.mx_words.proofs.program.with_modes.Goals as goal

pub returns : goal.returns
returns c =
    let users = added _ _ _ c.in_ok-arg.ensures c.text_arg.ensures.local c.bare.ensures c.text_arg.ensures.rule in
    let mode = added _ _ _ c.in_ok-arg-2.ensures c.text_arg-2.ensures.local users c.text_arg-2.ensures.rule in
    IfOk-weaker c.arg-3.result _ _ (λ whole adds. added _ _ _ adds c.text_arg-3.ensures.local mode c.text_arg-3.ensures.rule) c.arg-3.ensures
