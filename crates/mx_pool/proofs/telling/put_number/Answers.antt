use Rattle.std.proofs.Common.{◌≡◌, ℕ, List, ◌++◌, decimal, option_map, ◌∙◌, subst}
use Rattle.mx_pool.specs.Lines.{Tells, end_of}
use Rattle.mx_pool.proofs.telling.put_number.Goals as goal

pub returns : goal.returns
returns g c =
    let old = g.E.Sink.written c.args.errors.now in
    let new = g.E.Sink.written c.put_line.new.errors in
    let before = g.E.Sink.faults c.args.errors.now in
    let now = g.E.Sink.faults c.put_line.new.errors in
    let about = option_map (λ s. s.now) c.args.about in
    let text : c.as_bytes.result.now ≡ decimal c.args.line = c.as_bytes.ensures.value ∙ c.format.ensures.text in
    subst (λ (p : List ℕ × List ℕ). Tells old new before now (p.0 ++ end_of about p.1)) (λ i. (text i, c.says_of.ensures i)) c.put_line.ensures
