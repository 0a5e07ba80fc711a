use Rattle.mx_event.proofs.Ordered.{ordered_skip}
use Rattle.mx_json.specs.Keys.{keys_of}
use Rattle.mx_sync_json.proofs.receipts.put_kind.Goals as goal

pub returns-then-is_empty-clause-next : goal.returns-then-is_empty-clause-next
returns-then-is_empty-clause-next c = λ k less. ordered_skip (keys_of c.args.members.now) c.args.key.now k c.requires less
