use Rattle.std.proofs.Common.{refl}
use Rattle.mx_picture.specs.Values.{AliceIsTold, BobIsTold, DataAreTold, EndsAtLast, MoreFollows, NextForward, NoData, NoReceipts, NoneFollows, TwoForward}

pub bob_is_told : BobIsTold
bob_is_told = refl

pub alice_is_told : AliceIsTold
alice_is_told = refl

pub no_receipts : NoReceipts
no_receipts = refl

pub data_are_told : DataAreTold
data_are_told one two three = refl

pub no_data : NoData
no_data one two three = refl

pub two_forward : TwoForward
two_forward r e ask = refl

pub more_follows : MoreFollows
more_follows r e ask = refl

pub next_forward : NextForward
next_forward r e ask = refl

pub ends_at_last : EndsAtLast
ends_at_last r e ask = refl

pub none_follows : NoneFollows
none_follows r e ask = refl
