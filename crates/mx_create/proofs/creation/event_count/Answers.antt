use Rattle.std.proofs.Common.{length, ap, ◌∙◌}
use Rattle.std.specs.List.{count_by}
use Rattle.mx_create.specs.Bodies.{is_text_value}
use Rattle.mx_create.proofs.Drafts.{drafts_count}
use Rattle.mx_create.proofs.creation.event_count.Goals as goal

pub returns : goal.returns
returns c = λ by preset.
    drafts_count by preset c.args.ask.now (length c.listed.result.now) c.text_count.result c.text_count-2.result c.invited_count.result
    (ap length c.listed.ensures) c.text_count.ensures c.text_count-2.ensures (c.invited_count.ensures.count ∙ ap (count_by is_text_value) c.listed-2.ensures)
