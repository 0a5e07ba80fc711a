use Rattle.std.proofs.Common.{ap, ◌∙◌, List, ℕ, subst}
use Rattle.std.specs.Borrow.{Bor}
use Rattle.std.specs.List.{flat_map}
use Rattle.mx_http.specs.Stages.{state_of, Sends}
use Rattle.mx_http.proofs.AnswerHeads.{head_pieces}
use Rattle.mx_http.proofs.answer.put_head.Goals as goal

pub returns : goal.returns
returns g c =
    let digits = c.as_bytes.ensures.value ∙ c.format.ensures.text in
    let phrase = c.as_bytes-2.ensures.value ∙ c.phrase.ensures in
    let count = c.as_bytes-3.ensures.value ∙ c.format-2.ensures.text in
    let head = head_pieces c.args.status c.args.size c.args.close c.as_slice.result.now c.as_bytes.result.now c.as_bytes-2.result.now c.as_bytes-3.result.now c.connection.result.now
    c.as_slice.ensures digits phrase count c.connection.ensures in
    let whole = ap (flat_map {X = Bor (List ℕ)} {A = ℕ} (λ p. p.now)) c.as_slice-2.ensures ∙ head in
    subst (λ (l : List ℕ). Sends (state_of g.K.Sink.written g.K.Sink.faults c.args.sink.now c.args.stage.now) c.put_all.result
    (state_of g.K.Sink.written g.K.Sink.faults c.put_all.new.sink c.put_all.new.stage) l) whole c.put_all.ensures
