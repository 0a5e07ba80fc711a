use Rattle.std.proofs.Common.{◌∙◌}
use Rattle.mx_writers.proofs.Noted.{write_seen}
use Rattle.mx_writers.proofs.writing.write_noted.Goals as goal

pub returns-clause-wrote : goal.returns-clause-wrote
returns-clause-wrote g c =
    write_seen _ _ _ _ _ _ g.F.Item.Placed.lawful _ _ _ _ _ _ _ _ _ c.args.shard.now.numbered (c.write_in-answer.new.shard.numbered ∙ c.write_in-answer.ensures.stream.1) c.note.ensures.pen c.note.ensures.noted c.write_in-answer.ensures.wrote c.write_in-answer.ensures.pass c.note-2.ensures.noted
