use Rattle.std.proofs.Common.{◌≡◌, ◌+◌, ◌++◌, [], ◌∷◌, OnOk, length, length-append, ap, sym, subst, arith}
use Rattle.mx_window.proofs.Intervals.{stand_from-push}
use Rattle.mx_receipt.specs.Receipts.{position_of, AreInPlace}
use Rattle.tests_events.proofs.receipts.add.Goals as goal

pub returns-clause-after : goal.returns-clause-after
returns-clause-after g c =
    let next : position_of c.receipt.result ≡ 1 + length c.args.receipts.now = omega (arith, c.receipt.ensures, c.requires.next) in
    let more : c.push-pushed.new.self ≡ c.args.receipts.now ++ c.receipt.result ∷ [] =
    subst (λ r. OnOk r (c.push-pushed.new.self ≡ c.args.receipts.now ++ c.receipt.result ∷ [])) c.expect.ensures c.push-pushed.ensures.ok in
    subst AreInPlace (sym more) (stand_from-push position_of 1 c.args.receipts.now c.receipt.result c.requires.before next)

pub returns-clause-count : goal.returns-clause-count
returns-clause-count g c =
    let more : c.push-pushed.new.self ≡ c.args.receipts.now ++ c.receipt.result ∷ [] =
    subst (λ r. OnOk r (c.push-pushed.new.self ≡ c.args.receipts.now ++ c.receipt.result ∷ [])) c.expect.ensures c.push-pushed.ensures.ok in
    let size : length (c.args.receipts.now ++ c.receipt.result ∷ []) ≡ length c.args.receipts.now + 1 = length-append c.args.receipts.now (c.receipt.result ∷ []) in
    omega (arith, ap length more, size, c.requires.next)
