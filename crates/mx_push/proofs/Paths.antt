-- What stands at a path below a key.
use Rattle.std.proofs.Common.{ℕ, ◌≡◌, List, Option, Some, None, option_and_then, codes, ap, ap₂, ◌∙◌}
use Rattle.std.specs.Str.{chars}
use Rattle.mx_json.specs.Lookups.{lookup, path_parts}
use Rattle.mx_json.specs.declared.value.Json.{Json}
use Rattle.mx_event.specs.Forms.{redacts_of}
use Rattle.mx_event.specs.declared.event.Event.{Event}
use Rattle.mx_push.specs.Properties.{at_path, behind, leaf_at, path_at}
use Rattle.mx_push.specs.Settings.{Setting}

module _ (path : List ℕ) (s : Setting) (e : Event) (o : Option Json) where
  pub in_content : (rest : List ℕ) → Some (chars rest) ≡ behind (chars (codes "content.")) (chars path) → o ≡ lookup (path_parts rest) e.content → o ≡ at_path path s e
  unfolding at_path path_parts
  in_content rest is found = found ∙ ap (λ b. path_at b (behind (chars (codes "redacts.")) (chars path)) path s e) is

  pub in_redacts : (rest : List ℕ) → None ≡ behind (chars (codes "content.")) (chars path) → Some (chars rest) ≡ behind (chars (codes "redacts.")) (chars path) → o ≡ option_and_then (lookup (path_parts rest)) (redacts_of e) → o ≡ at_path path s e
  unfolding at_path path_parts
  in_redacts rest none is found = found ∙ ap₂ (λ a b. path_at a b path s e) none is

  pub in_leaf : None ≡ behind (chars (codes "content.")) (chars path) → None ≡ behind (chars (codes "redacts.")) (chars path) → o ≡ leaf_at path s e → o ≡ at_path path s e
  unfolding at_path
  in_leaf none also found = found ∙ ap₂ (λ a b. path_at a b path s e) none also
