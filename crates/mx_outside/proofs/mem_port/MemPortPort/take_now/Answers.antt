use Rattle.std.proofs.Common.{ap, ◌∙◌}
use Rattle.mx_outside.specs.Ports.{PortState}
use Rattle.mx_outside.proofs.Pieces.{piece_split}
use Rattle.mx_outside.proofs.mem_port.MemPortPort.take_now.Goals as goal

pub returns-clause-bytes : goal.returns-clause-bytes
returns-clause-bytes c =
    piece_split c.self.inside.bytes.items c.as_slice.result.now c.args.self.now.left _ c.self.inside.at c.min-count.result
    (ap (λ (s : PortState). s.left) c.self.view_is ∙ (c.fails.ensures.left ∙ c.waits.ensures.left)) c.as_slice.ensures.value c.copy_front.ensures
