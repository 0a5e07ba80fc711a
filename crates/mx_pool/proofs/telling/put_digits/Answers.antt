use Rattle.std.proofs.Common.{◌≡◌, List, ℕ, ◌++◌, codes, decimal, option_map, ◌∙◌, subst}
use Rattle.mx_pool.specs.Lines.{Tells, end_of}
use Rattle.mx_pool.proofs.telling.put_digits.Goals as goal

pub returns : goal.returns
returns g c =
    let old = g.E.Sink.written c.args.errors.now in
    let new = g.E.Sink.written c.put_line.new.errors in
    let before = g.E.Sink.faults c.args.errors.now in
    let now = g.E.Sink.faults c.put_line.new.errors in
    let about = option_map (λ s. s.now) c.args.about in
    let text : c.as_bytes.result.now ≡ decimal c.args.number = c.as_bytes.ensures.value ∙ c.format.ensures.text in
    subst (λ (p : List ℕ). Tells old new before now (p ++ end_of about (codes "\n"))) text c.put_line.ensures
