use Rattle.std.proofs.Common.{[], ◌∷◌, ◌++◌, ap, sym, refl, ℕ, List}
use Rattle.std.proofs.lemmas.Result.{err_from_is_err_and}
use Rattle.json.specs.Print.{escape}
use Rattle.mx_http.specs.Stages.{state_of}
use Rattle.mx_http.proofs.Stages.{stops_early, leaves_all, leaves_less, leaves_stop, leaves_last}
use Rattle.mx_http.proofs.print.put_quoted.Goals as goal

pub returns-in_err-put : goal.returns-in_err-put
returns-in_err-put g c =
    let failed = err_from_is_err_and c.from_residual.result c.from_residual.ensures.1 in
    rw failed.1 (stops_early _ _ (34 ∷ []) (escape c.args.text.now ++ 34 ∷ []) _ c.in_err-put.ensures refl)

pub returns-in_err-put_runs : goal.returns-in_err-put_runs
returns-in_err-put_runs g c =
    let failed = err_from_is_err_and c.from_residual-in_err-put_runs.result c.from_residual-in_err-put_runs.ensures.1 in
    let before = leaves_less _ _ _ (34 ∷ []) _ (escape c.args.text.now ++ 34 ∷ []) _ (leaves_all _ _) c.in_ok-put.ensures refl in
    rw failed.1 (leaves_stop _ _ _ _ _ (34 ∷ []) _ before c.in_err-put_runs.ensures (ap (λ (l : List ℕ). escape l ++ 34 ∷ []) (sym c.as_bytes.ensures.value)))

pub returns : goal.returns
returns g c =
    let before = leaves_less _ _ _ (34 ∷ []) _ (escape c.args.text.now ++ 34 ∷ []) _ (leaves_all _ _) c.in_ok-put.ensures refl in
    let runs = leaves_less _ _ _ _ _ (34 ∷ []) _ before c.in_ok-put_runs.ensures (ap (λ (l : List ℕ). escape l ++ 34 ∷ []) (sym c.as_bytes.ensures.value)) in
    leaves_last _ _ c.put-2.result (state_of g.K.Sink.written g.K.Sink.faults c.put-2.new.sink c.put-2.new.stage) _ _ runs c.put-2.ensures
