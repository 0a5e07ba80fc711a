use Rattle.std.proofs.Common.{map, ap, ◌∙◌}
use Rattle.mx_sync_json.specs.Groups.{event_now}
use Rattle.mx_sync_json.proofs.Grouped.{insert_event}
use Rattle.mx_sync_json.proofs.receipts.set.Goals as goal

pub returns : goal.returns
returns c = ap (map event_now) c.in_ok-insert.ensures.entries ∙ insert_event c.args.named.now.entries _ _
