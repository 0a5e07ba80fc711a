use Rattle.std.proofs.Common.{◌++◌, ap, sym, ◌∙◌, drop, ℕ, List}
use Rattle.std.proofs.lemmas.Result.{err_from_is_err_and}
use Rattle.json.specs.Print.{escape}
use Rattle.mx_http.proofs.Compact.{first_run, run_cut}
use Rattle.mx_http.proofs.Stages.{stops_early, puts_same}
use Rattle.mx_http.proofs.print.put_run.Goals as goal

pub returns-in_err-put_escaped-clause-bytes : goal.returns-in_err-put_escaped-clause-bytes
returns-in_err-put_escaped-clause-bytes g c =
    let failed = err_from_is_err_and c.from_residual.result c.from_residual.ensures.1 in
    let bytes = c.args.bytes.now in
    rw failed.1 (stops_early _ _ _ (escape (drop 1 bytes)) _ c.in_err-put_escaped.ensures
    (ap (λ (l : List ℕ). l ++ escape (drop 1 bytes)) (sym (first_run bytes c.requires)) ∙ sym (run_cut 1 bytes)))

pub returns-then-plain-eq0-clause-bytes : goal.returns-then-plain-eq0-clause-bytes
returns-then-plain-eq0-clause-bytes g c = puts_same _ _ _ _ c.in_ok-put_escaped.ensures (sym (first_run c.args.bytes.now c.requires))

pub returns-in_err-put-clause-bytes : goal.returns-in_err-put-clause-bytes
returns-in_err-put-clause-bytes g c =
    let failed = err_from_is_err_and c.from_residual-in_err-put.result c.from_residual-in_err-put.ensures.1 in
    let bytes = c.args.bytes.now in
    let n = c.plain_len-plain.result in
    rw failed.1 (stops_early _ _ _ (escape (drop n bytes)) _ c.in_err-put.ensures
    (ap (λ (l : List ℕ). l ++ escape (drop n bytes)) (sym c.plain_len-plain.ensures.plain) ∙ sym (run_cut n bytes)))

pub returns-clause-bytes : goal.returns-clause-bytes
returns-clause-bytes g c = puts_same _ _ _ _ c.in_ok-put.ensures (sym c.plain_len-plain.ensures.plain)
