-- The laws of redaction, and what a longer list keeps.
use Rattle.std.proofs.Common.{◌≡◌, ℕ, ◌<◌, ◌-◌, ◌^◌, cond, List, [], ◌∷◌, ◌++◌, true, false, ◌&&◌, leb, ltb, Option, Some, None, option_map, codes, refl, sym, ap, ◌∙◌, append-nil}
use Rattle.std.proofs.lemmas.Bool.{cases_Bool, cond-true, cond-false, and_parts, lt-leb}
use Rattle.std.proofs.lemmas.List.Elements.{filter-append}
use Rattle.std.proofs.lemmas.Slice.Eq.{bytes_eq-Decides}
use Rattle.std.proofs.Math.Bool.{and-false}
use Rattle.std.specs.List.{AllByRecursion, filter, filter_map, list_any}
use Rattle.std.specs.Option.{option_and_then, is_none}
use Rattle.std.specs.Str.{bytes_eq}
use mathlib.Core.Logic.{⊎_elim}
use Rattle.mx_ids.specs.Ids.{event_id_at}
use Rattle.mx_ids.specs.User.{server_of}
use Rattle.mx_ids.specs.declared.event_id.EventId.{EventId}
use Rattle.mx_json.specs.Fields.{members_of, text_of, text_at}
use Rattle.mx_json.specs.Keys.{value_at}
use Rattle.mx_json.specs.declared.value.Json as json
use Rattle.mx_json.specs.declared.value.Json.{Json}
use Rattle.mx_window.specs.Windows.{between}
use Rattle.mx_event.specs.Kinds.{create_type, redaction_type, is_redaction}
use Rattle.mx_event.specs.Laws.{RedactsOnce, NamesStay, ShownStays}
use Rattle.mx_event.specs.Redaction.{kept_member, redacted_content, redacted}
use Rattle.mx_event.specs.Shown.{position_of, is_at, names, first_of, redactions, shown}
use Rattle.mx_event.specs.declared.event.Event.{Event}
use Rattle.mx_event.proofs.Kept.{kept_again, kept_key, member_again, redacts_kept, value_kept}
use Rattle.mx_event.proofs.Texts.{members_of-Object}

content_again : (kind : List ℕ) (content : Json) → redacted_content kind (redacted_content kind content) ≡ redacted_content kind content
content_again kind content =
    let is_create = bytes_eq kind create_type in
    let left : Json → Json = λ j. json.Object (filter_map (kept_member kind) (members_of j)) in
    ⊎_elim
    (λ t. cond-true is_create (redacted_content kind content) (left (redacted_content kind content)) t)
    (λ f.
    let once : redacted_content kind content ≡ left content = cond-false is_create content (left content) f in
    cond-false is_create (redacted_content kind content) (left (redacted_content kind content)) f
    ∙ ap left once
    ∙ ap (λ ms. json.Object (filter_map (kept_member kind) ms)) (members_of-Object (filter_map (kept_member kind) (members_of content)))
    ∙ ap json.Object (kept_again (kept_member kind) (member_again kind) (members_of content))
    ∙ sym once)
    (cases_Bool is_create)

pub redacts_once : RedactsOnce
redacts_once e = ap (λ (content : Json). record e { content = content }) (content_again e.kind e.content)

redacts_stays : (content : Json) → text_at (codes "redacts") (redacted_content redaction_type content) ≡ text_at (codes "redacts") content
redacts_stays content =
    ap (λ ms. option_and_then text_of (value_at (codes "redacts") ms)) (members_of-Object (filter_map (kept_member redaction_type) (members_of content)))
    ∙ ap (option_and_then text_of) (value_kept (kept_member redaction_type) (kept_key redaction_type) (codes "redacts") redacts_kept (members_of content))

names_same : (e : Event) → is_redaction e ≡ true → text_at (codes "redacts") (redacted_content e.kind e.content) ≡ text_at (codes "redacts") e.content
names_same e t =
    let kind : e.kind ≡ redaction_type = (bytes_eq-Decides e.kind redaction_type).0 (and_parts (bytes_eq e.kind redaction_type) (is_none e.state_key) t).0 in
    ap (λ k. text_at (codes "redacts") (redacted_content k e.content)) kind ∙ redacts_stays e.content

pub names_stay : NamesStay
names_stay e at =
    let named : Option (List ℕ) → Option EventId = option_and_then (event_id_at (2 ^ 64 - 1) (server_of e.sender)) in
    let later = named (text_at (codes "redacts") (redacted_content e.kind e.content)) in
    let first = named (text_at (codes "redacts") e.content) in
    ap (is_at at) (⊎_elim
    (λ t. cond-true (is_redaction e) later None t ∙ ap named (names_same e t) ∙ sym (cond-true (is_redaction e) first None t))
    (λ f. cond-false (is_redaction e) later None f ∙ sym (cond-false (is_redaction e) first None f))
    (cases_Bool (is_redaction e)))

between_front : (low front : ℕ) (later : List Event) → AllByRecursion (λ (e : Event). front < e.id.at) later → between position_of low front later ≡ []
between_front low front [] all = refl
between_front low front (e ∷ later) all =
    let past : (ltb low e.id.at && leb e.id.at front) ≡ false = ap (λ b. ltb low e.id.at && b) (lt-leb e.id.at front all.0) ∙ and-false (ltb low e.id.at) in
    cond-false (ltb low e.id.at && leb e.id.at front) (e ∷ between position_of low front later) (between position_of low front later) past ∙ between_front low front later all.1

between_longer : (low front : ℕ) (es later : List Event) → AllByRecursion (λ (e : Event). front < e.id.at) later → between position_of low front (es ++ later) ≡ between position_of low front es
between_longer low front es later all =
    filter-append (λ (e : Event). ltb low e.id.at && leb e.id.at front) es later
    ∙ ap (λ xs. between position_of low front es ++ xs) (between_front low front later all)
    ∙ append-nil (between position_of low front es)

shown_longer : (es later : List Event) (v : Event) (front : ℕ) → AllByRecursion (λ (e : Event). front < e.id.at) later → shown (es ++ later) v front ≡ shown es v front
shown_longer es later v front all = ap (λ xs. cond (list_any (λ (e : Event). names e v.id.at) xs) (redacted v) v) (between_longer v.id.at front es later all)

option_map_by : {A B : Type 0} (f g : A → B) → ((a : A) → f a ≡ g a) → (o : Option A) → option_map f o ≡ option_map g o
option_map_by f g same None = refl
option_map_by f g same (Some a) = ap Some (same a)

pub shown_stays : ShownStays
shown_stays es later v front all =
    let event = shown_longer es later v front all in
    let because =
    option_map_by (λ e. shown (es ++ later) e front) (λ e. shown es e front) (λ e. shown_longer es later e front all) (first_of (redactions (es ++ later) v front))
    ∙ ap (λ xs. option_map (λ e. shown es e front) (first_of (filter (λ (e : Event). names e v.id.at) xs))) (between_longer v.id.at front es later all) in
    λ i. record { event = event i; because = because i }
