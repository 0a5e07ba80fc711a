-- The events of a block: how many they are, and that they are put one after the other.
use Rattle.std.proofs.Common.{◌≡◌, ℕ, ◌+◌, take, List, [], ◌∷◌, ◌++◌, length, map, codes, cond, Option, Some, None, is_some, option_map, refl, sym, ap, ◌∙◌, arith, append_assoc}
use Rattle.std.proofs.lemmas.List.{length-append, length-map, map-append}
use Rattle.std.proofs.lemmas.List.Recursion.{is_count_by}
use Rattle.std.specs.List.{count_by, filter_map, cons_option}
use Rattle.std.specs.Option.{option_to_list}
use Rattle.mx_event.specs.Kinds.{create_type, member_type, power_type, join_rules_type, visibility_type}
use Rattle.mx_event.specs.declared.draft.Draft.{Draft}
use Rattle.mx_json.specs.Fields.{text_at, text_of}
use Rattle.mx_json.specs.declared.value.Json as json
use Rattle.mx_json.specs.declared.value.Json.{Json}
use Rattle.mx_create.proofs.Listed.{more_listed}
use Rattle.mx_create.specs.Blocks.{Creating, draft, drafts_of, first_drafts, initial, invitation, named, rules}
use Rattle.mx_create.specs.Bodies.{invited, is_text_value, listed}
use Rattle.mx_create.specs.Contents.{create_content, invite_content, membership_content, power_content, single}
use Rattle.mx_create.specs.Presets.{guest_access_of, history_visibility_of, join_rule_of}
use Rattle.mx_create.specs.declared.preset.Preset.{Preset}

-- ---- how many they are

made_count : (f : List ℕ → Draft) (o : Option (List ℕ)) → length (option_to_list (option_map f o)) ≡ length (option_to_list o)
made_count f None = refl
made_count f (Some x) = refl

one_text : (o : Option (List ℕ)) (users : List (List ℕ)) → length (cons_option o users) ≡ cond (is_some o) (1 + length users) (length users)
one_text None users = refl
one_text (Some x) users = omega arith

texts_count : (js : List Json) → length (filter_map text_of js) ≡ count_by is_text_value js
texts_count js = is_count_by (λ l. length (filter_map text_of l)) is_text_value refl (λ j l. one_text (text_of j) (filter_map text_of l)) js

pub first_count : (by : Creating) (preset : Preset) (ask : Json) → length (first_drafts by preset ask) ≡ 6
unfolding first_drafts rules
first_count by preset ask = refl

pub drafts_count : (by : Creating) (preset : Preset) (ask : Json) (entries name topic invites : ℕ)
    → entries ≡ length (listed (codes "initial_state") ask)
    → name ≡ length (option_to_list (text_at (codes "name") ask)) → topic ≡ length (option_to_list (text_at (codes "topic") ask))
    → invites ≡ count_by is_text_value (listed (codes "invite") ask)
    → 6 + entries + (name + topic) + invites ≡ length (drafts_of by preset ask)
unfolding drafts_of
drafts_count by preset ask entries name topic invites is_entries is_name is_topic is_invites =
    let a = first_drafts by preset ask in
    let b = map (initial by) (listed (codes "initial_state") ask) in
    let c = named by (codes "m.room.name") (codes "name") ask in
    let d = named by (codes "m.room.topic") (codes "topic") ask in
    let e = map (invitation by ask) (invited ask) in
    omega (
      arith,
      length-append a (b ++ (c ++ (d ++ e))),
      length-append b (c ++ (d ++ e)),
      length-append c (d ++ e),
      length-append d e,
      first_count by preset ask,
      length-map (listed (codes "initial_state") ask) (initial by),
      made_count (λ text. draft by (codes "m.room.name") [] (single (codes "name") (json.Text text))) (text_at (codes "name") ask),
      made_count (λ text. draft by (codes "m.room.topic") [] (single (codes "topic") (json.Text text))) (text_at (codes "topic") ask),
      length-map (invited ask) (invitation by ask),
      texts_count (listed (codes "invite") ask),
      is_entries,
      is_name,
      is_topic,
      is_invites,
    )

-- ---- one after the other

pub rules_put : (by : Creating) (preset : Preset) (r s t : List ℕ) (v0 v1 v2 v3 : List Draft)
    → r ≡ join_rule_of preset → s ≡ history_visibility_of preset → t ≡ guest_access_of preset
    → v1 ≡ v0 ++ draft by join_rules_type [] (single (codes "join_rule") (json.Text r)) ∷ []
    → v2 ≡ v1 ++ draft by visibility_type [] (single (codes "history_visibility") (json.Text s)) ∷ []
    → v3 ≡ v2 ++ draft by (codes "m.room.guest_access") [] (single (codes "guest_access") (json.Text t)) ∷ []
    → v3 ≡ v0 ++ rules by preset
unfolding rules
rules_put by preset r s t v0 v1 v2 v3 is_rule is_shown is_access e1 e2 e3 =
    let a = λ (x : List ℕ). draft by join_rules_type [] (single (codes "join_rule") (json.Text x)) in
    let b = λ (x : List ℕ). draft by visibility_type [] (single (codes "history_visibility") (json.Text x)) in
    let c = λ (x : List ℕ). draft by (codes "m.room.guest_access") [] (single (codes "guest_access") (json.Text x)) in
    e3 ∙ ap (λ x. v2 ++ c x ∷ []) is_access
    ∙ ap (λ v. v ++ c (guest_access_of preset) ∷ []) (e2 ∙ ap (λ x. v1 ++ b x ∷ []) is_shown) ∙ append_assoc v1 (b (history_visibility_of preset) ∷ []) (c (guest_access_of preset) ∷ [])
    ∙ ap (λ v. v ++ b (history_visibility_of preset) ∷ c (guest_access_of preset) ∷ []) (e1 ∙ ap (λ x. v0 ++ a x ∷ []) is_rule)
    ∙ append_assoc v0 (a (join_rule_of preset) ∷ []) (b (history_visibility_of preset) ∷ c (guest_access_of preset) ∷ [])

pub first_put : (by : Creating) (preset : Preset) (ask created joined powers : Json) (v0 v1 v2 v3 v4 : List Draft)
    → created ≡ create_content ask → joined ≡ membership_content (codes "join") → powers ≡ power_content preset by.creator ask
    → v0 ≡ [] → v1 ≡ v0 ++ draft by create_type [] created ∷ [] → v2 ≡ v1 ++ draft by member_type by.creator joined ∷ []
    → v3 ≡ v2 ++ draft by power_type [] powers ∷ [] → v4 ≡ v3 ++ rules by preset
    → v4 ≡ first_drafts by preset ask
unfolding first_drafts
first_put by preset ask created joined powers v0 v1 v2 v3 v4 is_created is_joined is_powers e0 e1 e2 e3 e4 =
    let a = draft by create_type [] (create_content ask) in
    let b = draft by member_type by.creator (membership_content (codes "join")) in
    let f1 : v1 ≡ a ∷ [] = e1 ∙ ap (λ v. v ++ draft by create_type [] created ∷ []) e0 ∙ ap (λ x. draft by create_type [] x ∷ []) is_created in
    let f2 : v2 ≡ a ∷ b ∷ [] = e2 ∙ ap (λ v. v ++ draft by member_type by.creator joined ∷ []) f1 ∙ ap (λ x. a ∷ draft by member_type by.creator x ∷ []) is_joined in
    e4 ∙ ap (λ v. v ++ rules by preset) (e3 ∙ ap (λ v. v ++ draft by power_type [] powers ∷ []) f2) ∙ ap (λ x. a ∷ b ∷ draft by power_type [] x ∷ rules by preset) is_powers

pub all_parts : (by : Creating) (preset : Preset) (ask : Json) (v0 v1 v2 v3 v4 : List Draft) → v0 ≡ first_drafts by preset ask
    → v1 ≡ v0 ++ map (initial by) (listed (codes "initial_state") ask)
    → v2 ≡ v1 ++ named by (codes "m.room.name") (codes "name") ask
    → v3 ≡ v2 ++ named by (codes "m.room.topic") (codes "topic") ask
    → v4 ≡ v3 ++ map (invitation by ask) (invited ask)
    → v4 ≡ drafts_of by preset ask
unfolding drafts_of
all_parts by preset ask v0 v1 v2 v3 v4 e0 e1 e2 e3 e4 =
    let b = map (initial by) (listed (codes "initial_state") ask) in
    let c = named by (codes "m.room.name") (codes "name") ask in
    let d = named by (codes "m.room.topic") (codes "topic") ask in
    let e = map (invitation by ask) (invited ask) in
    e4 ∙ ap (λ v. v ++ e) e3 ∙ append_assoc v2 d e
    ∙ ap (λ v. v ++ (d ++ e)) e2 ∙ append_assoc v1 c (d ++ e)
    ∙ ap (λ v. v ++ (c ++ (d ++ e))) e1 ∙ append_assoc v0 b (c ++ (d ++ e))
    ∙ ap (λ v. v ++ (b ++ (c ++ (d ++ e)))) e0

pub invited_put : (by : Creating) (ask j content : Json) (user key : List ℕ) (v w : List Draft) → Some user ≡ text_of j → key ≡ user → content ≡ invite_content ask
    → w ≡ v ++ draft by member_type key content ∷ [] → w ≡ v ++ map (invitation by ask) (option_to_list (text_of j))
invited_put by ask j content user key v w text same is put =
    put ∙ ap (λ c. v ++ draft by member_type key c ∷ []) is ∙ ap (λ y. v ++ invitation by ask y ∷ []) same ∙ ap (λ o. v ++ map (invitation by ask) (option_to_list o)) text

pub more_invited : (by : Creating) (ask : Json) (js : List Json) (i : ℕ) (j : Json) (u v w : List Draft) → take (i + 1) js ≡ take i js ++ j ∷ []
    → v ≡ u ++ map (invitation by ask) (filter_map text_of (take i js)) → w ≡ v ++ map (invitation by ask) (option_to_list (text_of j))
    → w ≡ u ++ map (invitation by ask) (filter_map text_of (take (i + 1) js))
more_invited by ask js i j u v w more first second =
    let f = invitation by ask in
    let front = filter_map text_of (take i js) in
    second ∙ ap (λ x. x ++ map f (option_to_list (text_of j))) first ∙ append_assoc u (map f front) (map f (option_to_list (text_of j)))
    ∙ ap (λ l. u ++ l) (sym (map-append f front (option_to_list (text_of j))) ∙ ap (map f) (more_listed text_of js i j (text_of j) more refl))
