use Rattle.std.proofs.lemmas.List.{get_or_default}
use Rattle.mx_lanes.proofs.Orders.{named_at}
use Rattle.mx_lanes.proofs.order.store_at.Goals as goal

pub returns : goal.returns
returns g c = named_at _ _ c.args.place _ _ c.requires.valid c.requires.place (get_or_default c.args.order.now c.args.place 0 _ c.requires.place) c.index-history-order.is
