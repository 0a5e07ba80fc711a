-- Objects whose members are set one after the other.
use Rattle.std.proofs.Common.{◌≡◌, ℕ, List, [], true, codes, sym, ap, ◌∙◌}
use Rattle.std.proofs.lemmas.Bool.{cond-true}
use Rattle.mx_json.specs.Keys.{with_member}
use Rattle.mx_json.specs.declared.members.Member.{Member}
use Rattle.mx_json.specs.declared.value.Json as json
use Rattle.mx_json.specs.declared.value.Json.{Json}
use Rattle.mx_create.specs.Contents.{default_powers, first_levels, int, invite_content, is_set, single}
use Rattle.mx_create.specs.declared.preset.Preset.{Preset}

-- the content of a direct invitation
pub direct : (ask v : Json) (a b c : List (Member Json)) → is_set (codes "is_direct") ask ≡ true → a ≡ [] → b ≡ with_member (codes "is_direct") (json.Bool true) a
    → v ≡ json.Text (codes "invite") → c ≡ with_member (codes "membership") v b → json.Object c ≡ invite_content ask
unfolding invite_content
direct ask v a b c set none first text second =
    ap json.Object (second ∙ ap (λ x. with_member (codes "membership") x b) text ∙ ap (with_member (codes "membership") (json.Text (codes "invite"))) (first ∙ ap (with_member (codes "is_direct") (json.Bool true)) none))
    ∙ sym (cond-true (is_set (codes "is_direct") ask) _ _ set)

-- the default power levels, set one after the other
pub powers : (preset : Preset) (creator : List ℕ) (ask room : Json) (none users l0 l1 l2 l3 l4 l5 l6 l7 l8 l9 l10 : List (Member Json))
    → none ≡ [] → room ≡ single (codes "room") (int 50) → users ≡ first_levels preset creator ask
    → l0 ≡ [] → l1 ≡ with_member (codes "ban") (int 50) l0 → l2 ≡ with_member (codes "events") (json.Object none) l1
    → l3 ≡ with_member (codes "events_default") (int 0) l2 → l4 ≡ with_member (codes "invite") (int 0) l3 → l5 ≡ with_member (codes "kick") (int 50) l4
    → l6 ≡ with_member (codes "notifications") room l5 → l7 ≡ with_member (codes "redact") (int 50) l6 → l8 ≡ with_member (codes "state_default") (int 50) l7
    → l9 ≡ with_member (codes "users") (json.Object users) l8 → l10 ≡ with_member (codes "users_default") (int 0) l9
    → l10 ≡ default_powers preset creator ask
unfolding default_powers
powers preset creator ask room none users l0 l1 l2 l3 l4 l5 l6 l7 l8 l9 l10 n r u e0 e1 e2 e3 e4 e5 e6 e7 e8 e9 e10 =
    let f2 = e2 ∙ ap (λ x. with_member (codes "events") (json.Object x) l1) n ∙ ap (with_member (codes "events") (json.Object [])) (e1 ∙ ap (with_member (codes "ban") (int 50)) e0) in
    let f5 = e5 ∙ ap (with_member (codes "kick") (int 50)) (e4 ∙ ap (with_member (codes "invite") (int 0)) (e3 ∙ ap (with_member (codes "events_default") (int 0)) f2)) in
    let f6 = e6 ∙ ap (λ x. with_member (codes "notifications") x l5) r ∙ ap (with_member (codes "notifications") (single (codes "room") (int 50))) f5 in
    let f8 = e8 ∙ ap (with_member (codes "state_default") (int 50)) (e7 ∙ ap (with_member (codes "redact") (int 50)) f6) in
    let f9 = e9 ∙ ap (λ x. with_member (codes "users") (json.Object x) l8) u ∙ ap (with_member (codes "users") (json.Object (first_levels preset creator ask))) f8 in
    e10 ∙ ap (with_member (codes "users_default") (int 0)) f9
