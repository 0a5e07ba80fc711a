-- Tallies, with the push rules that were read last, may go to another thread.
use denote.Param.Send.{IsSend, sendable}
use denote.Param.SendFields.{declared_send}
use Rattle.std.proofs.Crossing.{crosses}
use Rattle.indexmap.proofs.map.IndexMap.TheSendSync as index_map
use Rattle.mx_auth.proofs.Crosses.{json_send}
use Rattle.mx_ids.proofs.text.Text.TheSendSync as text
use Rattle.mx_ids.proofs.user.UserId.TheSendSync as user
use Rattle.mx_rules.specs.contracts.rule_set.RuleSet as RuleSet
use Rattle.mx_unread.specs.contracts.read_rules.ReadRules as ReadRules
use Rattle.mx_unread.specs.contracts.tallies.Tallies as Tallies
use Rattle.mx_unread.proofs.tally_cache.TallyCache.TheSendSync as cache

rules_send : IsSend RuleSet.the_row
rules_send = declared_send RuleSet.the_type (
  search (json_send, text.the_send, index_map.the_send, crosses, sendable) depth 30,
  (
    search (json_send, text.the_send, index_map.the_send, crosses, sendable) depth 30,
    (
      search (json_send, text.the_send, index_map.the_send, crosses, sendable) depth 30,
      (search (json_send, text.the_send, index_map.the_send, crosses, sendable) depth 30, (search (json_send, text.the_send, index_map.the_send, crosses, sendable) depth 30, tt)),
    ),
  ),
)

read_send : IsSend ReadRules.the_row
read_send = declared_send ReadRules.the_type (user.the_send, (search sendable depth 9, (rules_send, tt)))

pub tallies_send : IsSend Tallies.the_row
tallies_send = declared_send Tallies.the_type (cache.the_send, (search (read_send, sendable) depth 9, tt))
