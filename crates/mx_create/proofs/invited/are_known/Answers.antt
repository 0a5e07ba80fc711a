use Rattle.std.proofs.Common.{}
use Rattle.mx_create.proofs.Sets.{all_known}
use Rattle.mx_create.proofs.invited.are_known.Goals as goal

pub returns : goal.returns
returns c =
    all_known c.args.users.now c.args.ask.now c.as_slice.result.now _ _ _ _ c.new-strangers.ensures.empty c.as_slice.ensures
    c.in_ok-add_invited.ensures c.in_ok-add_initial.ensures c.remove.ensures c.is_empty.result c.is_empty.ensures
