use Rattle.std.proofs.Common.{◌≡◌, ◌++◌, drop}
use Rattle.std.specs.Option.{option_copied}
use Rattle.mx_snapshot.specs.Looks.{all_now}
use Rattle.mx_visible.specs.Walks.{all_sighted, walked}
use Rattle.mx_visible.proofs.sights.walk_through.Given as goal

abbrev pub invariant-events : goal.invariant-events
invariant-events l = all_sighted l.made.items ++ walked l.user l.last (option_copied l.own) (option_copied l.setting) (all_now (drop l.event-index l.window)) ≡ walked l.user l.before.last_join (option_copied l.before.own) (option_copied l.before.setting) (all_now l.window)
