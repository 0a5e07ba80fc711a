use Rattle.std.proofs.Common.{ap}
use Rattle.mx_outside.proofs.Pieces.{piece_split}
use Rattle.mx_log.proofs.mem_log.MemLogLogFile.take.Goals as goal

pub returns-clause-bytes : goal.returns-clause-bytes
returns-clause-bytes c = piece_split c.self.inside.bytes.items c.as_slice.result.now _ _ c.self.inside.read c.min-count.result
    (ap (λ s. s.2) c.self.view_is) c.as_slice.ensures.value c.copy_front.ensures
