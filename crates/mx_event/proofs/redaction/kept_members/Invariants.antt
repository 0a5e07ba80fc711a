use Rattle.std.proofs.Common.{◌≡◌, take}
use Rattle.std.specs.List.{filter_map}
use Rattle.mx_event.specs.Redaction.{kept_member}
use Rattle.mx_event.proofs.redaction.kept_members.Given as goal

abbrev pub invariant-loop-member : goal.invariant-loop-member
invariant-loop-member l = l.kept ≡ filter_map (kept_member l.kind) (take l.member-index l.member-items)
