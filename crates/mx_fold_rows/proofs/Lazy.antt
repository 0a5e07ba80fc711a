use Rattle.std.proofs.Common.{refl}
use Rattle.mx_fold_rows.specs.Lazy.{FirstMembers, FirstSender, FirstHero, SentOnceMore, HeroesSent, MemberOmitted, RedundantSent, SentByBase, MembersAfter, PageMembers}

pub first_members : FirstMembers
first_members = refl

pub first_sender : FirstSender
first_sender = refl

pub first_hero : FirstHero
first_hero = refl

pub sent_once_more : SentOnceMore
sent_once_more = refl

pub heroes_sent : HeroesSent
heroes_sent = refl

pub member_omitted : MemberOmitted
member_omitted = refl

pub redundant_sent : RedundantSent
redundant_sent = refl

pub sent_by_base : SentByBase
sent_by_base = refl

pub members_after : MembersAfter
members_after = refl

pub page_members : PageMembers
page_members = refl
