use Rattle.std.proofs.Common.{◌∙◌}
use Rattle.mx_desk.proofs.Lines.{only_line}
use Rattle.mx_desk.proofs.keeping.line_from.Goals as goal

pub returns : goal.returns
returns c = only_line c.args.begun.line.items _ c.as_slice.result.now _ c.args.begun.fresh (c.as_slice.ensures.value ∙ c.in_ok-put_first.ensures) c.in_ok-add_line.ensures.added
