-- The code's memberships and settings are those of the definitions.
use Rattle.mx_folding.specs.Visible.{Membership, Join, Invite, Leave, Ban, HistoryVisibility, WorldReadable, SharedSince, InvitedSince, JoinedSince}
use Rattle.mx_visible.specs.declared.readings.Membership.TheVariants as own
use Rattle.mx_visible.specs.declared.readings.HistoryVisibility.TheVariants as set
use Rattle.mx_visible.specs.declared.readings.Membership as memberships
use Rattle.mx_visible.specs.declared.readings.HistoryVisibility as settings

abbrev pub membership_from : memberships.Membership → Membership
membership_from own.Join = Join
membership_from own.Invite = Invite
membership_from own.Leave = Leave
membership_from own.Ban = Ban

abbrev pub setting_from : settings.HistoryVisibility → HistoryVisibility
setting_from set.WorldReadable = WorldReadable
setting_from set.Shared = SharedSince
setting_from set.Invited = InvitedSince
setting_from set.Joined = JoinedSince
