use Rattle.mx_http.specs.Stages.{state_of}
use Rattle.mx_http.specs.Answers.{response_bytes, body_text}
use Rattle.mx_http.proofs.Stages.{sends_done, sends_part, sends_count, sends_cause}
use Rattle.mx_http.proofs.answer.write_answer.Goals as goal

pub returns : goal.returns
returns g c =
    let before = state_of g.K.Sink.written g.K.Sink.faults c.args.sink.now c.new-stage.result in
    let after = state_of g.K.Sink.written g.K.Sink.faults c.put_answer.new.sink c.put_answer.new.stage in
    let bytes = response_bytes c.args.answer.now.status (body_text c.args.answer.now.body) c.args.head_only c.args.close in
    record {
      done = sends_done before c.put_answer.result after bytes c.new-stage.ensures c.put_answer.ensures.empty c.put_answer.ensures.bytes;
      part = sends_part before c.put_answer.result after bytes c.new-stage.ensures c.put_answer.ensures.bytes;
      count = sends_count before c.put_answer.result after bytes c.put_answer.ensures.bytes;
      cause = sends_cause before c.put_answer.result after bytes c.put_answer.ensures.bytes;
    }
