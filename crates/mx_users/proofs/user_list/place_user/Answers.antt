use Rattle.std.proofs.Common.{sym, ap, ◌∙◌, nat_cmp}
use Rattle.std.specs.BTreeMap as tree
use Rattle.std.specs.Cmp.Lexicographic.{slice_cmp}
use Rattle.mx_users.specs.UsersFile.{number_of}
use Rattle.mx_users.proofs.Indices.{absent_at, found_at, number_push, places_after}
use Rattle.mx_users.proofs.user_list.place_user.Goals as goal

pub returns-in-Some-clause-number : goal.returns-in-Some-clause-number
returns-in-Some-clause-number c =
    let old = c.args.users.now.users in
    let same = ap (λ id. tree.get (slice_cmp nat_cmp) c.args.numbers.now id) c.as_text.ensures.text in
    found_at old c.args.id c.in-Some.number.now (c.in-Some.ensures.value ∙ same ∙ c.requires.numbered c.args.id)

pub returns-clause-numbered : goal.returns-clause-numbered
returns-clause-numbered c =
    let old = c.args.users.now.users in
    let same = ap (λ id. tree.get (slice_cmp nat_cmp) c.args.numbers.now id) c.as_text.ensures.text in
    let none = absent_at old c.args.id (c.in_default.ensures.value ∙ same ∙ c.requires.numbered c.args.id) in
    places_after (λ id. id) c.args.numbers.now c.insert.new.self old c.push.new.self c.args.id c.in_ok-copy.field-0 c.len-number.result none (c.in_ok-copy.ensures ∙ c.as_text-2.ensures.text)
    c.len-number.ensures c.in_ok-push.ensures.ok c.in_ok-insert.ensures.updates c.requires.numbered

pub returns-clause-number : goal.returns-clause-number
returns-clause-number c =
    let old = c.args.users.now.users in
    let same = ap (λ id. tree.get (slice_cmp nat_cmp) c.args.numbers.now id) c.as_text.ensures.text in
    let none = absent_at old c.args.id (c.in_default.ensures.value ∙ same ∙ c.requires.numbered c.args.id) in
    c.len-number.ensures ∙ sym (number_push old c.args.id none) ∙ ap (λ users. number_of users c.args.id) (sym c.in_ok-push.ensures.ok)
