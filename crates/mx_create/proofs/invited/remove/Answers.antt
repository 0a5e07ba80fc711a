use Rattle.std.proofs.Common.{◌≡◌, ◌+◌, [], ◌∷◌, ◌++◌, take, arith}
use Rattle.std.proofs.lemmas.Grind.{common_steps}
use Rattle.mx_create.proofs.Sets.{removes_empty, removes_more}
use Rattle.mx_create.proofs.invited.remove.Goals as goal

pub users-preserved : goal.users-preserved
users-preserved c =
    let us = c.args.users.now in
    let i = c.users.user-index in
    let more : take (i + 1) us ≡ take i us ++ c.user-item.result ∷ [] = grind (arith, common_steps, c.user-item.is, c.users-test.true) in
    removes_more us i c.user-item.result _ c.args.strangers.now c.users.strangers c.remove.new.self more c.as_str.ensures.text c.users.invariant c.remove.ensures.updates

pub returns-then-is_empty : goal.returns-then-is_empty
returns-then-is_empty c = removes_empty c.args.users.now c.args.strangers.now (c.is_empty.ensures.0 c.if-is_empty.true)
