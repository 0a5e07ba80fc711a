use Rattle.std.proofs.Common.{◌≡◌, ◌+◌, [], ◌∷◌, ◌++◌, take, ap, ◌∙◌, true}
use Rattle.std.proofs.lemmas.Grind.{common_steps}
use Rattle.std.proofs.Common.{arith}
use Rattle.mx_json.specs.Keys.{are_ordered, keys_of}
use Rattle.mx_event.proofs.Kept.{may_keep, keep_next}
use Rattle.mx_event.proofs.redaction.kept_members.Goals as goal

pub keep-requires : goal.keep-requires
keep-requires c =
    let ms = c.as_slice-member-items.result.now in
    let l = c.loop-member in
    let more : take (l.member-index + 1) ms ≡ take l.member-index ms ++ c.member-item.result ∷ [] = grind (arith, common_steps, c.member-item.is, c.loop-member-test.true) in
    let order : are_ordered (keys_of ms) ≡ true = ap (λ xs. are_ordered (keys_of xs)) c.as_slice-member-items.ensures.value ∙ c.as_slice-member-items.ensures.ordered in
    may_keep c.args.kind.now ms l.kept l.member-index c.member-item.result more l.invariant order

pub loop-member-preserved : goal.loop-member-preserved
loop-member-preserved c =
    let ms = c.as_slice-member-items.result.now in
    let l = c.loop-member in
    let more : take (l.member-index + 1) ms ≡ take l.member-index ms ++ c.member-item.result ∷ [] = grind (arith, common_steps, c.member-item.is, c.loop-member-test.true) in
    c.in_ok-keep.ensures ∙ keep_next c.args.kind.now ms l.kept l.member-index c.member-item.result more l.invariant
