use Rattle.std.proofs.Common.{◌≡◌, ◌+◌, ◌++◌, [], ◌∷◌, OnOk, length, length-append, ap, sym, subst, arith}
use Rattle.mx_window.proofs.Intervals.{stand_from-push}
use Rattle.mx_account.specs.Entries.{position_of}
use Rattle.mx_account.specs.Values.{AreInPlace}
use Rattle.tests_events.proofs.account_data.add.Goals as goal

pub returns-clause-after : goal.returns-clause-after
returns-clause-after g c =
    let next : position_of c.entry.result ≡ 1 + length c.args.entries.now = omega (arith, c.entry.ensures, c.requires.next) in
    let more : c.push-pushed.new.self ≡ c.args.entries.now ++ c.entry.result ∷ [] =
    subst (λ r. OnOk r (c.push-pushed.new.self ≡ c.args.entries.now ++ c.entry.result ∷ [])) c.expect.ensures c.push-pushed.ensures.ok in
    subst AreInPlace (sym more) (stand_from-push position_of 1 c.args.entries.now c.entry.result c.requires.before next)

pub returns-clause-count : goal.returns-clause-count
returns-clause-count g c =
    let more : c.push-pushed.new.self ≡ c.args.entries.now ++ c.entry.result ∷ [] =
    subst (λ r. OnOk r (c.push-pushed.new.self ≡ c.args.entries.now ++ c.entry.result ∷ [])) c.expect.ensures c.push-pushed.ensures.ok in
    let size : length (c.args.entries.now ++ c.entry.result ∷ []) ≡ length c.args.entries.now + 1 = length-append c.args.entries.now (c.entry.result ∷ []) in
    omega (arith, ap length more, size, c.requires.next)
