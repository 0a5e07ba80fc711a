use Rattle.std.proofs.Common.{ap}
use Rattle.mx_outside.proofs.Pieces.{piece_split}
use Rattle.mx_outside.proofs.mem_source.MemSourceSource.take.Goals as goal

pub returns-clause-bytes : goal.returns-clause-bytes
returns-clause-bytes c = piece_split c.self.inside.bytes.items c.as_slice.result.now _ _ c.self.inside.at c.min-count.result
    (ap (λ feed. feed.left) c.self.view_is) c.as_slice.ensures.value c.copy_front.ensures
