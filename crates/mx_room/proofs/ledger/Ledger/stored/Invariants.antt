use Rattle.mx_room.specs.Books.{taken_in}
use Rattle.mx_room.proofs.ledger.Ledger.stored.Given as goal

abbrev pub ghost-made_of : goal.ghost-made_of
ghost-made_of a = taken_in a._parts.now.0.now.rooms a._parts.now.1
