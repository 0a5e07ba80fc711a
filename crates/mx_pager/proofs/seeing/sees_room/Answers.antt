use Rattle.mx_pager.proofs.Upper.{sees_is}
use Rattle.mx_pager.proofs.seeing.sees_room.Goals as goal

pub returns : goal.returns
returns c = sees_is c.args.reading.now c.front-front.ensures.placed c.front-front.result c.last_visible-last.result c.front-front.ensures.count c.last_visible-last.ensures
