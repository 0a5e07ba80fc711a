use Rattle.std.proofs.Common.{refl}
use Rattle.mx_fold_rows.specs.Visible.{SharedSeen, SharedUnseen, JoinAfterFront, JoinedSeen, JoinedPage, WorldReads, WorldDoesnt, WorldReadsSetting, InvitedSees, InvitedJoinsLater, InvitedStays, BannedSees, OtherLeaves, UnsetIsShared, UnknownIsShared, MessageSetsNothing, OtherKeySetsNothing, EmptyKeySets, MessageJoinsNobody, KeyJoins}

pub shared_seen : SharedSeen
shared_seen = refl

pub shared_unseen : SharedUnseen
shared_unseen = refl

pub join_after_front : JoinAfterFront
join_after_front = refl

pub joined_seen : JoinedSeen
joined_seen = refl

pub joined_page : JoinedPage
joined_page = refl

pub world_reads : WorldReads
world_reads = refl

pub world_doesnt : WorldDoesnt
world_doesnt = refl

pub world_reads_setting : WorldReadsSetting
world_reads_setting = refl

pub invited_sees : InvitedSees
invited_sees = refl

pub invited_joins_later : InvitedJoinsLater
invited_joins_later = refl

pub invited_stays : InvitedStays
invited_stays = refl

pub banned_sees : BannedSees
banned_sees = refl

pub other_leaves : OtherLeaves
other_leaves = refl

pub unset_is_shared : UnsetIsShared
unset_is_shared = refl

pub unknown_is_shared : UnknownIsShared
unknown_is_shared = refl

pub message_sets_nothing : MessageSetsNothing
message_sets_nothing = refl

pub other_key_sets_nothing : OtherKeySetsNothing
other_key_sets_nothing = refl

pub empty_key_sets : EmptyKeySets
empty_key_sets = refl

pub message_joins_nobody : MessageJoinsNobody
message_joins_nobody = refl

pub key_joins : KeyJoins
key_joins = refl
