use Rattle.std.proofs.Common.{}
use Rattle.std.proofs.lemmas.Result.{on_ok_weaker}
use Rattle.mx_create.proofs.Objects.{powers}
use Rattle.mx_create.proofs.contents.put_defaults.Goals as goal

pub returns : goal.returns
returns c =
    on_ok_weaker c.put-10.result
    (λ last none. powers c.args.preset c.args.creator.now c.args.ask.now _ _ _ _ _ _ _ _ _ _ _ _ _ _ c.new.ensures c.in_ok-notifications.ensures c.in_ok-first_levels.ensures none
    c.in_ok-put.ensures c.in_ok-put-2.ensures c.in_ok-put-3.ensures c.in_ok-put-4.ensures c.in_ok-put-5.ensures
    c.in_ok-put-6.ensures c.in_ok-put-7.ensures c.in_ok-put-8.ensures c.in_ok-put-9.ensures last)
    c.put-10.ensures
