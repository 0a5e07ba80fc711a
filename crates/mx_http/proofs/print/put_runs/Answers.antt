use Rattle.std.proofs.Common.{◌+◌, ◌-◌, ◌++◌, [], ap, sym, ◌∙◌, take, drop, length, append-nil, arith, ℕ, List}
use Rattle.std.proofs.lemmas.List.{take_rest}
use Rattle.std.proofs.lemmas.Result.{err_from_is_err_and}
use Rattle.json.specs.Print.{escape}
use Rattle.mx_http.proofs.Compact.{runs_left, runs_end}
use Rattle.mx_http.proofs.Stages.{leaves_all, leaves_less, leaves_stop, leaves_none}
use Rattle.mx_http.proofs.print.put_runs.Goals as goal

pub runs-init : goal.runs-init
runs-init g c = record { within = omega arith; left = leaves_all _ _ }

pub runs-preserved : goal.runs-preserved
runs-preserved g c =
    let bytes = c.args.bytes.now in
    let done = c.runs.done in
    let n = c.in_ok-done.field-0 in
    record {
      within = omega (arith, c.in_ok-done.ensures.some);
      left = leaves_less _ _ _ _ _ (escape (drop (done + n) bytes)) _ c.runs.invariant.left c.in_ok-done.ensures.bytes
          (runs_left done n bytes ∙ ap (λ (l : List ℕ). escape (take n l) ++ escape (drop (done + n) bytes)) (sym (take_rest bytes done)));
    }

pub returns-in_err-done : goal.returns-in_err-done
returns-in_err-done g c =
    let failed = err_from_is_err_and c.from_residual.result c.from_residual.ensures.1 in
    let bytes = c.args.bytes.now in
    rw failed.1 (leaves_stop _ _ _ _ _ [] _ c.runs.invariant.left c.in_err-done.ensures.bytes
    (ap escape (sym (take_rest bytes c.runs.done)) ∙ sym (append-nil (escape (take (length bytes - c.runs.done) (drop c.runs.done bytes))))))

pub returns : goal.returns
returns g c = leaves_none _ _ _ _ c.runs.invariant.left (runs_end c.runs.done c.args.bytes.now (omega arith))
