use Rattle.std.specs.Prelude.{[]}
use Rattle.mx_room.proofs.ledger.Ledger.without_block.Given as goal

abbrev pub ghost-made_of : goal.ghost-made_of
ghost-made_of a = record a._parts.now.rooms { pending = [] }
