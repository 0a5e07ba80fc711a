use Rattle.std.proofs.Common.{refl}
use Rattle.mx_fold_rows.specs.Stays.{BreakAtHidden, PageOfStay, StateAfter, NoBreakAtDropped, HasLeft, CameBack, IsInvited, InviteShows, LeftAlready, InvitedAlready, LeaveIncluded, LeaveLeftOut, LeftSinceToken, LeftLimited, LeftBeforeToken, LeftSender, LeftFullState, StayEnds, BannedAfter, BannedBare, FirstBase, KeptBase}

pub break_at_hidden : BreakAtHidden
break_at_hidden = refl

pub page_of_stay : PageOfStay
page_of_stay = refl

pub state_after : StateAfter
state_after = refl

pub no_break_at_dropped : NoBreakAtDropped
no_break_at_dropped = refl

pub has_left : HasLeft
has_left = refl

pub came_back : CameBack
came_back = refl

pub is_invited : IsInvited
is_invited = refl

pub invite_shows : InviteShows
invite_shows = refl

pub left_already : LeftAlready
left_already = refl

pub invited_already : InvitedAlready
invited_already = refl

pub leave_included : LeaveIncluded
leave_included = refl

pub leave_left_out : LeaveLeftOut
leave_left_out = refl

pub left_since_token : LeftSinceToken
left_since_token = refl

pub left_limited : LeftLimited
left_limited = refl

pub left_before_token : LeftBeforeToken
left_before_token = refl

pub left_sender : LeftSender
left_sender = refl

pub left_full_state : LeftFullState
left_full_state = refl

pub stay_ends : StayEnds
stay_ends = refl

pub banned_after : BannedAfter
banned_after = refl

pub banned_bare : BannedBare
banned_bare = refl

pub first_base : FirstBase
first_base = refl

pub kept_base : KeptBase
kept_base = refl
