use Rattle.std.proofs.Common.{[], ap, sym, ℕ, List}
use Rattle.std.specs.Prelude.{Option, unwrap_or}
use Rattle.mx_http.proofs.Phrases.{no_phrase}
use Rattle.mx_http.proofs.answer.phrase.Goals as goal

pub returns-in-Err : goal.returns-in-Err
returns-in-Err c = ap (λ (o : Option (List ℕ)). unwrap_or o []) (sym (no_phrase c.args.status c.in-Err.ensures))
