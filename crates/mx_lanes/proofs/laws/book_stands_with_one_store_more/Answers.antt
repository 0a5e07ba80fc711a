use Rattle.mx_lanes.proofs.Stands.{one_store_more}
use Rattle.mx_lanes.proofs.laws.book_stands_with_one_store_more.Goals as goal

pub returns : goal.returns
returns g c = one_store_more
