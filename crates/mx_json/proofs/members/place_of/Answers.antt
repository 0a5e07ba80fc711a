use Rattle.std.proofs.Common.{rules}
use Rattle.std.proofs.lemmas.Fn.{always_returns_same}
use Rattle.mx_json.specs.Places.{order}
use Rattle.mx_json.proofs.Search.{searched}
use Rattle.mx_json.proofs.members.place_of.Goals as goal

pub returns-clause-found : goal.returns-clause-found
returns-clause-found g c =
    (searched c.args.key.now c.args.members.now c.requires c.binary_search_by.result c.binary_search_by.ensures.bound
    (c.binary_search_by.ensures.position (order c.args.key.now) (always_returns_same _ _ _ (λ a r f called. search rules)))).0

pub returns-clause-parted : goal.returns-clause-parted
returns-clause-parted g c =
    (searched c.args.key.now c.args.members.now c.requires c.binary_search_by.result c.binary_search_by.ensures.bound
    (c.binary_search_by.ensures.position (order c.args.key.now) (always_returns_same _ _ _ (λ a r f called. search rules)))).1
