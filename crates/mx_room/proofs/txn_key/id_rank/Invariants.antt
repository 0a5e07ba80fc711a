use Rattle.std.proofs.Common.{◌≡◌, take}
use Rattle.std.specs.List.{fold}
use Rattle.mx_room.specs.Ranks.{with_digit}
use Rattle.mx_room.proofs.txn_key.id_rank.Given as goal

abbrev pub invariant-bytes : goal.invariant-bytes
invariant-bytes l = l.rank ≡ fold with_digit 0 (take l.byte-index l.last)
