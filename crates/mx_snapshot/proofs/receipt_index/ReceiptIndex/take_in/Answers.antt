use Rattle.std.proofs.lemmas.Result.{on_ok_weaker}
use Rattle.mx_snapshot.proofs.Entries.{next_receipt}
use Rattle.mx_snapshot.proofs.receipt_index.ReceiptIndex.take_in.Goals as goal

pub returns : goal.returns
returns c = λ rs was. on_ok_weaker c.add_version.result
    (λ put. next_receipt c.args.self.now (record { rooms = c.add_to_room.new.rooms; own = c.add_version.new.rooms }) rs c.args.receipt.now c.kind_name.result.now c.as_str.result.now c.kind_name.ensures c.as_str.ensures.text c.in_ok-add_to_room.ensures put was) c.add_version.ensures
