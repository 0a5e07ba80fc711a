use Rattle.std.proofs.Common.{length, take, drop, ap, ◌∙◌}
use Rattle.mx_restore.proofs.Pieces.{put_behind}
use Rattle.mx_restore.proofs.reading.take_piece.Goals as goal

pub returns-in-Got-clause-took : goal.returns-in-Got-clause-took
returns-in-Got-clause-took g c =
    let old = c.args.bytes.now in
    let grown = c.grow.new.bytes in
    let new = c.take_behind.new.bytes in (
      take c.in-Got.count (drop c.len-before.result new),
      put_behind old.items grown.items c.as_mut_slice.result.now new _ c.len-before.result grown.len c.in-Got.count
          (c.len-before.ensures ∙ old.ok.0) grown.ok.0 (c.take_behind.auto.bytes ∙ ap length c.as_mut_slice.ensures.value) c.in-Got.ensures.front c.as_mut_slice.ensures.value c.in_ok-grow.ensures.front c.truncate.ensures.items,
      c.in-Got.ensures.took,
    )
