use Rattle.std.proofs.Common.{◌≡◌, drop}
use Rattle.std.specs.List.{list_all}
use Rattle.mx_push.specs.Conditions.{condition_holds}
use Rattle.mx_push.specs.Settings.{setting_of}
use Rattle.mx_push.proofs.conditions.all_hold.Given as goal

abbrev pub invariant-conditions : goal.invariant-conditions
invariant-conditions l =
    list_all (condition_holds (setting_of l.context) l.event) (drop l.condition-index l.conditions) ≡ list_all (condition_holds (setting_of l.context) l.event) l.conditions
