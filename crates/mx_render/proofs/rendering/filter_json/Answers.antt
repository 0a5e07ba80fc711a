use Rattle.std.proofs.Common.{◌≡◌, ℕ, List, IfOk, codes, subst}
use Rattle.mx_json.specs.declared.value.Json.TheVariants as json
use Rattle.mx_render.specs.Rendered.{single}
use Rattle.mx_render.proofs.rendering.filter_json.Goals as goal

pub returns : goal.returns
returns c = subst (λ (text : List ℕ). IfOk c.single.result (λ j. j ≡ single (codes "filter_id") (json.Text text))) c.in_ok-text.ensures c.single.ensures
