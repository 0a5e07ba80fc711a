use Rattle.std.proofs.Common.{◌≡◌, [], ◌∷◌, ◌++◌, sym, ap, subst, ◌∙◌}
use Rattle.mx_auth.specs.Placing.{IsNumbered, SenderList, is_in}
use Rattle.mx_auth.proofs.Numbering.{last_in, numbered_seen, one_numbered, unchanged_numbered}
use Rattle.mx_auth.proofs.Sorted.{when_ok}
use Rattle.mx_auth.proofs.senders.Senders.add.Goals as goal

pub returns-then-contains_key-clause-known : goal.returns-then-contains_key-clause-known
returns-then-contains_key-clause-known c =
    numbered_seen c.args.self.now.names c.self.inside.names.items c.self.inside.numbers c.as_str.result.now c.args.user.now c.as_str.ensures.text (ap (λ (s : SenderList). s.names) c.self.view_is) c.self.invariant
    (sym c.contains_key.ensures ∙ c.if-contains_key.true)

pub invariant_of-self-in_err-name : goal.invariant_of-self-in_err-name
invariant_of-self-in_err-name c = subst (λ ns. IsNumbered ns c.self.inside.numbers) (sym c.reserve.ensures.items) c.self.invariant

pub invariant_of-self-in_err-key : goal.invariant_of-self-in_err-key
invariant_of-self-in_err-key c = subst (λ ns. IsNumbered ns c.self.inside.numbers) (sym c.reserve.ensures.items) c.self.invariant

pub invariant_of-self-in_err-insert : goal.invariant_of-self-in_err-insert
invariant_of-self-in_err-insert c =
    unchanged_numbered c.self.inside.names.items c.reserve.new.self.items c.self.inside.numbers c.insert.new.self c.reserve.ensures.items c.in_err-insert.ensures.err c.self.invariant

pub invariant_of-self-2 : goal.invariant_of-self-2
invariant_of-self-2 c =
    let names = c.self.inside.names.items in
    let pushed : c.push.new.self.items ≡ names ++ c.args.user.now ∷ [] =
    when_ok _ _ _ _ _ c.unwrap.ensures c.push.ensures.items ∙ (λ i. c.reserve.ensures.items i ++ c.in_ok-name.ensures i ∷ []) in
    subst (λ ns. IsNumbered ns c.insert.new.self) (sym pushed)
    (one_numbered names c.self.inside.numbers c.insert.new.self _ c.args.user.now c.len-number.result (c.in_ok-key.ensures.ok ∙ c.as_str-2.ensures.text) (c.len-number.ensures ∙ c.self.inside.names.ok.0)
    c.in_ok-insert.ensures.updates c.self.invariant)

pub returns-clause-known : goal.returns-clause-known
returns-clause-known c =
    ap (λ ns. is_in ns c.args.user.now) (when_ok _ _ _ _ _ c.unwrap.ensures c.push.ensures.items ∙ (λ i. c.reserve.ensures.items i ++ c.in_ok-name.ensures i ∷ [])) ∙ last_in c.self.inside.names.items c.args.user.now
