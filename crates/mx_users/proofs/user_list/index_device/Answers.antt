use Rattle.std.proofs.Common.{◌≡◌, [], ◌∷◌, ◌++◌, true, false, refl, sym, ◌∙◌, rules}
use Rattle.mx_ids.specs.declared.users.Device.{Device}
use Rattle.mx_users.specs.UsersFile.{has_token, with_device}
use Rattle.mx_users.proofs.Indices.{named_after, places_after, token_found}
use Rattle.mx_users.proofs.user_list.index_device.Goals as goal

pub returns-then-contains_key-clause-broken : goal.returns-then-contains_key-clause-broken
unfolding with_device
returns-then-contains_key-clause-broken c =
    let device = c.args.device.now in
    let old = c.args.users.now.devices in
    let held : has_token old device.token ≡ true = sym (token_found old device.token _ (c.requires.tokened device.token)) ∙ sym c.contains_key.ensures ∙ c.if-contains_key.true in
    search (rules, held)

pub returns-clause-found : goal.returns-clause-found
unfolding with_device
returns-clause-found c =
    let device = c.args.device.now in
    let old = c.args.users.now.devices in
    let none : has_token old device.token ≡ false = sym (token_found old device.token _ (c.requires.tokened device.token)) ∙ sym c.contains_key.ensures ∙ c.if-contains_key.false in
    search (rules, none)

pub returns-clause-named : goal.returns-clause-named
returns-clause-named c =
    named_after c.args.names.now c.insert.new.self c.args.users.now.devices (c.args.users.now.devices ++ c.args.device.now ∷ []) c.args.device.now c.in_ok-copy.field-0 c.in_ok-copy.ensures refl c.in_ok-insert.ensures.updates c.requires.named

pub returns-clause-tokened : goal.returns-clause-tokened
returns-clause-tokened c =
    let device = c.args.device.now in
    let old = c.args.users.now.devices in
    let none = sym (token_found old device.token _ (c.requires.tokened device.token)) ∙ sym c.contains_key.ensures ∙ c.if-contains_key.false in
    places_after (λ (d : Device). d.token) c.args.tokens.now c.insert-2.new.self old (old ++ device ∷ []) device c.in_ok-copy-2.field-0 c.len-number.result none
    c.in_ok-copy-2.ensures c.len-number.ensures refl c.in_ok-insert-2.ensures.updates c.requires.tokened
