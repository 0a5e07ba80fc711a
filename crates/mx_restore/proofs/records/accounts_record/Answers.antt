use Rattle.std.proofs.Common.{◌≡◌, Some, ap, ◌∙◌}
use Rattle.mx_records.specs.Records.{entry_read, line_read}
use Rattle.mx_restore.proofs.records.accounts_record.Goals as goal

pub returns : goal.returns
returns c =
    let line = c.in-Some.line in
    let read : line_read entry_read c.args.json.now ≡ Some (record { name = c.stream_text-name.result.now; writer = line.writer; items = line.items; first = line.first }) = rw c.in-Some.is at c.in_ok-line.ensures in
    (line.items, read ∙ ap (λ name. Some (record { name = name; writer = line.writer; items = line.items; first = line.first })) c.stream_text-name.ensures, c.in-Some-entry_draft.ensures)
