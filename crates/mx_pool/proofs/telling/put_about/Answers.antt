use Rattle.std.proofs.Common.{List, ℕ, ◌++◌, refl, subst}
use Rattle.mx_pool.specs.Lines.{Tells}
use Rattle.mx_pool.proofs.Outcomes.{tells_more, tells_part}
use Rattle.mx_pool.proofs.telling.put_about.Goals as goal

pub returns-in-Failed : goal.returns-in-Failed
returns-in-Failed g c =
    let old = g.E.Sink.written c.args.errors.now in
    let new = g.E.Sink.written c.put.new.self in
    let before = g.E.Sink.faults c.args.errors.now in
    let now = g.E.Sink.faults c.put.new.self in
    let says = c.args.says.now in
    subst (λ (t : List ℕ). Tells old new before now (t ++ says)) c.as_bytes.ensures.value (tells_part old new before now c.as_bytes.result.now says c.in-Failed.ensures.bytes (c.in-Failed.ensures.cause refl))

pub returns-in-Done : goal.returns-in-Done
returns-in-Done g c =
    let old = g.E.Sink.written c.args.errors.now in
    let mid = g.E.Sink.written c.put.new.self in
    let new = g.E.Sink.written c.put_text.new.errors in
    let before = g.E.Sink.faults c.args.errors.now in
    let between = g.E.Sink.faults c.put.new.self in
    let now = g.E.Sink.faults c.put_text.new.errors in
    let says = c.args.says.now in
    subst (λ (t : List ℕ). Tells old new before now (t ++ says)) c.as_bytes.ensures.value (tells_more old mid new before between now c.as_bytes.result.now says c.in-Done.ensures.bytes c.in-Done.ensures.count c.put_text.ensures)
