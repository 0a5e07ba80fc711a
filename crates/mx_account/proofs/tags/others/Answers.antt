use Rattle.std.proofs.Common.{◌≡◌, ◌+◌, ◌++◌, ◌∷◌, [], true, not, drop, arith, sym, ap, ◌∙◌}
use Rattle.std.proofs.lemmas.Grind.{common_steps}
use Rattle.std.specs.Str.{bytes_eq}
use Rattle.mx_json.specs.Keys.{are_ordered, keys_of}
use Rattle.mx_account.proofs.Members.{may_push}
use Rattle.mx_account.proofs.tags.others.Goals as goal

pub push-requires : goal.push-requires
push-requires c =
    let items = c.as_slice-member-items.result.now in
    let next : drop c.members.member-index items ≡ c.member-item.result ∷ drop (c.members.member-index + 1) items = grind (arith, common_steps, c.member-item.is, c.members-test.true) in
    let other : not (bytes_eq c.member-item.result.key c.args.key.now) ≡ true = ap (λ k. not (bytes_eq k c.args.key.now)) (sym c.as_str.ensures) ∙ sym c.ne.ensures ∙ c.if-ne.true in
    let order : are_ordered (keys_of items) ≡ true = ap (λ ms. are_ordered (keys_of ms)) c.as_slice-member-items.ensures.value ∙ c.as_slice-member-items.ensures.ordered in
    ap (λ k. are_ordered (keys_of c.members.made ++ k ∷ [])) c.in_ok-copy.ensures ∙ may_push c.args.key.now c.members.made items _ (drop (c.members.member-index + 1) items) c.member-item.result order c.members.invariant next other
