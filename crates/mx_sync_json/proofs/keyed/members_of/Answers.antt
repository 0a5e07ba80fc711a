use Rattle.std.proofs.Common.{◌++◌, sym, ap, ◌∙◌}
use Rattle.mx_sync_json.specs.Keyed.{members_in}
use Rattle.mx_sync_json.proofs.Keys.{may_push}
use Rattle.mx_sync_json.proofs.keyed.members_of.Goals as goal

pub push-requires : goal.push-requires
push-requires c =
    let members = c.members.members in
    let left = c.next.new.self in
    let whole = ap (λ es. members ++ members_in es) (sym c.in-Some.ensures.steps) ∙ c.members.invariant.2 in
    may_push members (c.in-Some.key, c.in-Some.value) left c.args.keyed.entries whole c.into_iter-key-iterator.ensures.into_iter_gives.5
