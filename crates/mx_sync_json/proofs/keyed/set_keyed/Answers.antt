use Rattle.std.proofs.Common.{ap, ◌∙◌}
use Rattle.mx_sync_json.specs.Keyed.{members_in}
use Rattle.mx_sync_json.proofs.Keys.{set_in}
use Rattle.mx_sync_json.proofs.keyed.set_keyed.Goals as goal

pub returns : goal.returns
returns c =
    ap members_in c.in_ok-insert.ensures.entries ∙ set_in c.args.key c.args.value c.args.keyed.now.entries
