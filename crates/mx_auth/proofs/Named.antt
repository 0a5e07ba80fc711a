-- What a redaction that names nothing names.
use Rattle.std.proofs.Common.{◌≡◌, ℕ, false, ◌&&◌, List, [], ◌∷◌, None, refl, ap, ◌∙◌, sym}
use Rattle.std.specs.List.{list_any}
use Rattle.std.specs.Str.{bytes_eq}
use Rattle.mx_event.specs.Denied.{names_own}
use Rattle.mx_event.specs.Shown.{named_id, names, is_at}
use Rattle.mx_event.specs.declared.event.Event.{Event}

none_at : (es : List Event) → list_any (λ (e : Event). is_at e.id.at None) es ≡ false
none_at [] = refl
none_at (e ∷ es) = none_at es

pub nothing_named : (v : Event) (es : List Event) → None ≡ named_id v → false ≡ list_any (λ (e : Event). names v e.id.at) es
nothing_named v es is = sym (ap (λ o. list_any (λ (e : Event). is_at e.id.at o) es) (sym is) ∙ none_at es)

none_sent : (user : List ℕ) (es : List Event) → list_any (λ (e : Event). is_at e.id.at None && bytes_eq e.sender user) es ≡ false
none_sent user [] = refl
none_sent user (e ∷ es) = none_sent user es

pub none_named : (v : Event) (es : List Event) → None ≡ named_id v → false ≡ names_own v es
none_named v es is = sym (ap (λ o. list_any (λ (e : Event). is_at e.id.at o && bytes_eq e.sender v.sender) es) (sym is) ∙ none_sent v.sender es)
