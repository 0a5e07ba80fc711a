use Rattle.std.proofs.lemmas.Result.{IfOk-weaker}
use Rattle.mx_words.proofs.Added.{added}
use Rattle.mx_words.proofs.program.with_bounds.Goals as goal

pub returns : goal.returns
returns c =
    let threads = added _ _ _ c.in_ok-arg.ensures c.number_arg.ensures.local c.in_ok-with_modes.ensures c.number_arg.ensures.rule in
    let workers = added _ _ _ c.in_ok-arg-2.ensures c.number_arg-2.ensures.local threads c.number_arg-2.ensures.rule in
    let connections = added _ _ _ c.in_ok-arg-3.ensures c.free_number_arg.ensures.local workers c.free_number_arg.ensures.rule in
    let requests = added _ _ _ c.in_ok-arg-4.ensures c.number_arg-3.ensures.local connections c.number_arg-3.ensures.rule in
    IfOk-weaker c.arg-5.result _ _ (λ whole adds. added _ _ _ adds c.number_arg-4.ensures.local requests c.number_arg-4.ensures.rule) c.arg-5.ensures
