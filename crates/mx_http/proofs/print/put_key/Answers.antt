use Rattle.std.proofs.Common.{[], ◌∷◌, ◌++◌, ap, sym, refl, ℕ, List}
use Rattle.std.proofs.lemmas.Result.{err_from_is_err_and}
use Rattle.json.specs.Print.{quoted}
use Rattle.mx_http.specs.Stages.{state_of}
use Rattle.mx_http.proofs.Stages.{stops_early, leaves_all, leaves_less, leaves_stop, leaves_last}
use Rattle.mx_http.proofs.print.put_key.Goals as goal

pub returns-in_err-put : goal.returns-in_err-put
returns-in_err-put g c =
    let failed = err_from_is_err_and c.from_residual.result c.from_residual.ensures.1 in
    let rest = quoted c.args.key.now ++ 58 ∷ [] in
    rw failed.1 (stops_early _ _ _ rest _ c.in_err-put.ensures (ap (λ (l : List ℕ). l ++ rest) c.comma.ensures))

pub returns-in_err-put_quoted : goal.returns-in_err-put_quoted
returns-in_err-put_quoted g c =
    let failed = err_from_is_err_and c.from_residual-in_err-put_quoted.result c.from_residual-in_err-put_quoted.ensures.1 in
    let rest = quoted c.args.key.now ++ 58 ∷ [] in
    let before = leaves_less _ _ _ _ _ rest _ (leaves_all _ _) c.in_ok-put.ensures (sym (ap (λ (l : List ℕ). l ++ rest) c.comma.ensures)) in
    rw failed.1 (leaves_stop _ _ _ _ _ (58 ∷ []) _ before c.in_err-put_quoted.ensures refl)

pub returns : goal.returns
returns g c =
    let rest = quoted c.args.key.now ++ 58 ∷ [] in
    let before = leaves_less _ _ _ _ _ rest _ (leaves_all _ _) c.in_ok-put.ensures (sym (ap (λ (l : List ℕ). l ++ rest) c.comma.ensures)) in
    let key = leaves_less _ _ _ _ _ (58 ∷ []) _ before c.in_ok-put_quoted.ensures refl in
    leaves_last _ _ c.put-2.result (state_of g.K.Sink.written g.K.Sink.faults c.put-2.new.sink c.put-2.new.stage) _ _ key c.put-2.ensures
