use Rattle.std.proofs.Common.{◌≡◌, ◌++◌, drop}
use Rattle.mx_account.specs.Tags.{without_member}
use Rattle.mx_account.proofs.tags.others.Given as goal

abbrev pub invariant-members : goal.invariant-members
invariant-members l = l.made ++ without_member l.key (drop l.member-index l.member-items) ≡ without_member l.key l.member-items
